-- `keccak_f::two_rounds` meets its contract: twice the five steps, one after the other, and a round of a complemented state is the round
-- complemented. Assumes nothing.
use mathlib.Core.Path.{◌≡◌, ap, ◌∙◌}
use mathlib.Core.List.{List}
use Prim.Native.Nat.{ℕ}
use lib.ListN.{get_or}
use borrow.Author.Rules.{elem_Fits}
use mir.Syntax.{w64}
use mir.Val.{Fits}
use Rattle.keccak_steps.specs.Permutation.{rho, pi, chi, iota, round}
use Rattle.keccak_complement.specs.Complement.{complement, complement_before_chi}
use Rattle.keccak_complement.proofs.Inverted.{round-complement, round_twice}
use Rattle.keccak_f.proofs.two_rounds.Goals as goal

pub returns : goal.returns
returns c =
    let a = c.args.a in
    let b = c.iota-b.result in
    let a_fits : (k : ℕ) → Fits w64 (get_or a k 0) = λ k. search (elem_Fits, c.well_formed) in
    let b_fits : (k : ℕ) → Fits w64 (get_or b k 0) = λ k. search (elem_Fits, c.iota-b.type_inv) in
    let steps : (s : List ℕ) → List ℕ = λ s. complement (chi (complement_before_chi s)) in
    let one : b ≡ complement (round c.args.c (complement a)) =
    c.iota-b.ensures
    ∙ ap (iota c.args.c) (c.chi_complemented.ensures ∙ ap steps (c.pi.ensures ∙ ap pi (c.rho.ensures ∙ ap rho c.theta.ensures)))
    ∙ round-complement c.args.c a (λ x y. (a_fits _).fits)
    in
    c.iota.ensures
    ∙ ap (iota c.args.d) (c.chi_complemented-2.ensures ∙ ap steps (c.pi-2.ensures ∙ ap pi (c.rho-2.ensures ∙ ap rho c.theta-2.ensures)))
    ∙ round-complement c.args.d b (λ x y. (b_fits _).fits)
    ∙ ap (λ (s : List ℕ). complement (round c.args.d s)) (ap complement one ∙ round_twice c.args.c (complement a))
