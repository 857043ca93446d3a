-- `keccak_complement::complemented` meets its contract: a lane with all ones added is its inverse, a lane with zero added is itself. Assumes nothing.
use mathlib.Core.Path.{◌≡◌, refl, sym}
use mathlib.Core.List.{[], ◌∷◌}
use Prim.Native.Nat.{ℕ, ◌-◌, ◌^◌}
use lib.Bits.{xor_zero_r}
use lib.ListN.{get_or}
use borrow.Author.Rules.{rules}
use mir.Syntax.{w64}
use mir.Val.{Fits}
use Rattle.keccak_steps.specs.Lanes.{◌⊕◌}
use Rattle.keccak_complement.specs.Complement.{ones, mask, added, complement}
use Rattle.keccak_complement.proofs.Bits.{first, all, inverse, xor, same}
use Rattle.keccak_complement.proofs.complemented.Goals as goal

pub returns : goal.returns
unfolding complement added mask
returns c = let a = c.args.a in
    let fits : (k : ℕ) → Fits w64 (get_or a k 0) = λ k. search rules in
    let kept : (k : ℕ) → get_or a k 0 ≡ get_or a k 0 ⊕ 0 = λ k. sym (xor_zero_r (get_or a k 0)) in
    let inverted : (k : ℕ) → 2 ^ 64 - 1 - get_or a k 0 ≡ get_or a k 0 ⊕ ones =
    λ k. same (inverse first) (xor first all) refl 64 (get_or a k 0) 0 0 (fits k).fits (search rules) (search rules)
    in
    λ i.
    kept 0 i ∷ inverted 1 i ∷ inverted 2 i ∷ kept 3 i ∷ kept 4 i
    ∷ kept 5 i ∷ kept 6 i ∷ kept 7 i ∷ inverted 8 i ∷ kept 9 i
    ∷ kept 10 i ∷ kept 11 i ∷ inverted 12 i ∷ kept 13 i ∷ kept 14 i
    ∷ kept 15 i ∷ kept 16 i ∷ inverted 17 i ∷ kept 18 i ∷ kept 19 i
    ∷ inverted 20 i ∷ kept 21 i ∷ kept 22 i ∷ kept 23 i ∷ kept 24 i ∷ []
