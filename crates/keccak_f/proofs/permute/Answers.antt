-- `keccak_f::permute` meets its contract: after i turns the state is that of the first 2 * i rounds, complemented. Assumes nothing.
use mathlib.Core.Path.{◌≡◌, refl, ap, ap₂, ◌∙◌}
use Prim.Native.Nat.{ℕ, suc, ◌+◌, ◌*◌, ◌<◌}
use mathlib.Core.List.{List}
use native.Mathlib.Omega.{arith}
use borrow.Author.Rules.{rules}
use lib.ListN.{get_or, length}
use Rattle.keccak_steps.specs.Permutation.{round, round_constant, rounds, keccak_f}
use Rattle.keccak_complement.specs.Complement.{complement}
use Rattle.keccak_complement.proofs.Inverted.{complement_twice, round_twice}
use Rattle.keccak_f.proofs.Tables.{constant_at}
use Rattle.keccak_f.proofs.permute.Goals as goal

two_more : (a s : List ℕ) (i : ℕ) → s ≡ rounds i a → round (round_constant (i + 1)) (round (round_constant i) s) ≡ rounds (i + 2) a
unfolding rounds
two_more a s i e =
    let one : i + 1 ≡ suc i = omega arith in
    let two : suc (suc i) ≡ i + 2 = omega arith in
    ap₂ (λ (k : ℕ) (t : List ℕ). round (round_constant k) (round (round_constant i) t)) one e ∙ ap (λ (n : ℕ). rounds n a) two

pub loop-i-init : goal.loop-i-init
unfolding rounds
loop-i-init c = refl

pub loop-i-preserved : goal.loop-i-preserved
loop-i-preserved c =
    let i = 2 * c.loop-i.i in
    let s = c.loop-i.s in
    let s₀ = c.complemented-s.result in
    let constants = c.round_constants-constants.result in
    let constant : (k : ℕ) → k < 24 → get_or constants k 0 ≡ round_constant k =
    λ k h. ap (λ (l : List ℕ). get_or l k 0) c.round_constants-constants.ensures ∙ constant_at k h
    in
    let turn : i + 2 ≡ 2 * (c.loop-i.i + 1) = omega arith in
    ap complement c.two_rounds-next.ensures
    ∙ round_twice (get_or constants (i + 1) 0) (round (get_or constants i 0) (complement s))
    ∙ ap₂ (λ (p q : ℕ). round q (round p (complement s))) (constant i (omega arith)) (constant (i + 1) (omega arith))
    ∙ two_more (complement s₀) (complement s) i c.loop-i.invariant
    ∙ ap (λ (n : ℕ). rounds n (complement s₀)) turn

pub returns : goal.returns
unfolding keccak_f
returns c =
    let a = c.args.a in
    let lanes : length a ≡ 25 = search rules in
    let last : 2 * c.loop-i.i ≡ 24 = omega arith in
    c.complemented.ensures
    ∙ c.loop-i.invariant
    ∙ ap₂ rounds last (ap complement c.complemented-s.ensures ∙ complement_twice a lanes)
