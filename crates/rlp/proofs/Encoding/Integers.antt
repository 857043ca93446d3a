-- An integer's bytes read as that integer, and what reads as an integer is its bytes. Assumes nothing.
use Prim.Native.Nat.{ℕ, ◌<◌}
use Rattle.std.specs.Prelude.{Option, Some}
use mathlib.Core.Path.{◌≡◌, sym, ap, ◌∙◌}
use mathlib.Core.Logic.{◌≢◌}
use mathlib.Core.Bool.{false}
use mathlib.Core.List.{[], ◌∷◌}
use native.Mathlib.Decide.{dec_lt}
use native.Mathlib.Omega.{arith}
use borrow.Author.Tests.{eqb-false}
use lib.ListN.{length, get_or}
use Rattle.octets.specs.Octets.{Bytes, number}
use Rattle.rlp.specs.Numbers.{uint_bytes}
use Rattle.rlp.specs.Reading.{leading_zero, uint_of}
use Rattle.rlp.specs.Claims.{UintRead, UintSound}
use Rattle.rlp.proofs.Cases.{by_cases, by_ltb}
use Rattle.rlp.proofs.Numbers.{uint_bound, uint-number, uint-zero, uint_lead, number-uint}
use Rattle.rlp.proofs.Reading.{uint-value, no_leading_zero}

pub uint_read : UintRead
uint_read n small = sym (uint-value (uint_bytes n) (uint_bound n small) (no_leading_zero (uint_bytes n) lead)) ∙ ap Some (uint-number n)
  where
    lead : 0 < length (uint_bytes n) → get_or (uint_bytes n) 0 0 ≢ 0
    lead p z = elim (dec_lt 0 n) [ yes q ↦ omega (arith, (uint_lead n q).1) | no q ↦ omega (arith, ap length (uint-zero n (omega arith))) ]

lead_first : (s : Bytes) → leading_zero s ≡ false → 0 < length s → 0 < get_or s 0 0
lead_first [] e p = absurd (omega arith)
lead_first (b ∷ s) e p = let ne = eqb-false b 0 e in omega arith

pub uint-sound : UintSound
unfolding uint_of
uint-sound s n sl =
    by_ltb (λ (u : Option ℕ). u ≡ Some n → s ≡ uint_bytes n) 8 (length s) (λ _ e. cc)
    (λ _. by_cases (λ (u : Option ℕ). u ≡ Some n → s ≡ uint_bytes n) (leading_zero s) (λ _ e. cc)
    (λ z e.
    let v : number s ≡ n = cc in
    sym (number-uint s sl.bytes (lead_first s z)) ∙ ap uint_bytes v))
