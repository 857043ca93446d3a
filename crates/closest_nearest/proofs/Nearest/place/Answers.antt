-- `closest_nearest::Nearest::place` meets its contract. The invariant: those from k on are at least as far. Assumes nothing.
use mathlib.Core.Path.{◌≡◌, sym, ◌∙◌}
use Prim.Native.Nat.{◌+◌, ◌-◌}
use native.Mathlib.Omega.{arith}
use borrow.Author.Rules.{rules}
use lib.ListN.{length}
use Rattle.closest_nearest.proofs.Shift.{length_mapped}
use Rattle.closest_nearest.proofs.Place.{behind_more, place_found, place-first}
use Rattle.closest_nearest.proofs.Nearest.place.Goals as goal

pub loop-k-init : goal.loop-k-init
loop-k-init c = (omega arith, λ j p q. absurd (omega arith))

pub offset_bounds-self-k : goal.offset_bounds-self-k
offset_bounds-self-k c = omega (arith, c.requires.few)

pub bounds-self-k : goal.bounds-self-k
bounds-self-k c = omega (arith, c.requires.few)

pub returns-then-not-not_farther : goal.returns-then-not-not_farther
returns-then-not-not_farther c =
    let size : length c.args.self.list ≡ 16 = search (rules, length_mapped) in
    let at_loop = c in
    let start = at_loop in
    let args = start.args in
    let e : at_loop.loop-k.k - 1 + 1 ≡ at_loop.loop-k.k = omega arith in
    e
    ∙ place_found args.self args.x start.requires size at_loop.loop-k.k (omega arith) (omega arith)
    (sym c.not_farther.ensures ∙ c.if-not-not_farther.true) at_loop.loop-k.invariant.1

pub loop-k-preserved : goal.loop-k-preserved
loop-k-preserved c = let at_loop = c in
    let start = at_loop in
    let args = start.args in
    (omega arith, behind_more args.x.far args.self at_loop.loop-k.k at_loop.loop-k.invariant.1 (sym c.not_farther.ensures ∙ c.if-not-not_farther.false))

pub returns : goal.returns
returns c =
    let size : length c.args.self.list ≡ 16 = search (rules, length_mapped) in
    let at_loop = c in
    let start = at_loop in
    let args = start.args in
    let done : at_loop.loop-k.k ≡ 0 = omega arith in
    place-first args.self args.x start.requires size (rw done at at_loop.loop-k.invariant.1)
