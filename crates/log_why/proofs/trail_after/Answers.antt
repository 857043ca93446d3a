-- `log_why::trail_after` meets its contract. Assumes nothing.
use Prim.Native.Nat.{◌+◌}
use mathlib.Core.Path.{◌≡◌, refl, ap, ◌∙◌}
use mathlib.Core.Bool.{cond, ◌||◌}
use Rattle.log_why.proofs.Trails.{trail_is}
use Rattle.log_why.proofs.trail_after.Goals as goal
use Rattle.log_why.proofs.trail_after.Goals.{then-acted, else-acted}

pub returns : goal.returns
returns c =
    let a = c.args in
    let number : c.if-acted.number ≡ cond a.acted.named a.acted.number a.trail.number =
    elim c.if-acted.branch [ then-acted w ↦ w.number-is ∙ rw w.if-acted.true refl | else-acted w ↦ w.number-is ∙ rw w.if-acted.false refl ] in
    trail_is a.trail a.acted a.before a.after c.standing_after-standing.ensures
    (c.pick.ensures ∙ ap (λ b. cond b (a.trail.lines + 1) a.trail.tail) (c.either-tails.ensures ∙ ap (λ b. b || a.acted.moves) c.seats.ensures))
    c.pick-2.ensures c.either.ensures number
