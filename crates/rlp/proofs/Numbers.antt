-- Laws of integers as bytes: the least width, and the round trip both ways. Assumes nothing.
use Prim.Native.Nat.{ℕ, zero, suc, ◌+◌, ◌*◌, ◌/◌, ◌^◌, ◌≤◌, ◌<◌}
use mathlib.Core.Path.{◌≡◌, refl, ap, ◌∙◌}
use mathlib.Core.List.{[], ◌∷◌}
use native.Mathlib.Nat.{pow-suc, pow-le-pow_right, div-lt_iff_lt-mul, zero-lt-suc, mul-le-mul_right, le_trans, zero-add, one-mul, mod-eq_of_lt}
use native.Mathlib.Decide.{dec_lt}
use native.Mathlib.Omega.{arith}
use borrow.Author.Tests.{eq-eqb, ne_eqb}
use lib.ListN.{length, get_or}
use Rattle.octets.specs.Octets.{Bytes, IsBytes, number, number_from, big_endian}
use Rattle.octets.proofs.Laws.{length-big_endian, number-big_endian, big_endian-number, big_endian_lead, number_from_less, number_from_least}
use Rattle.rlp.specs.Numbers.{divisions, width, uint_bytes}
use Rattle.rlp.proofs.Cases.{by_eqb}

-- any number of steps that is enough gives the same
divisions_enough : (j k n : ℕ) → n ≤ j → n ≤ k → divisions j n ≡ divisions k n
unfolding divisions
divisions_enough zero zero n hj hk = refl
divisions_enough zero (suc k) n hj hk = rw (eq-eqb n 0 (omega arith))
divisions_enough (suc j) zero n hj hk = rw (eq-eqb n 0 (omega arith))
divisions_enough (suc j) (suc k) n hj hk = rw (divisions_enough j k (n / 256) (omega arith) (omega arith))

pub width-suc : (n : ℕ) → 0 < n → width n ≡ suc (width (n / 256))
unfolding width divisions
width-suc zero p = absurd (omega arith)
width-suc (suc n) p = rw (ne_eqb (suc n) 0 (omega arith)) (ap suc (divisions_enough n (suc n / 256) (suc n / 256) (omega arith) (omega arith)))

pub width-zero : (n : ℕ) → n ≤ 0 → width n ≡ 0
unfolding width divisions
width-zero zero h = refl
width-zero (suc n) h = absurd (omega arith)

-- the width holds n
divisions_hold : (steps n : ℕ) → n ≤ steps → n < 256 ^ divisions steps n
unfolding divisions
divisions_hold zero n h = omega arith
divisions_hold (suc steps) n h =
    by_eqb (λ (w : ℕ). n < 256 ^ w) n 0 (λ e. omega arith)
    (λ ne. rw pow-suc ((div-lt_iff_lt-mul (zero-lt-suc 255)).0 (divisions_hold steps (n / 256) (omega arith))))

pub width_holds : (n : ℕ) → n < 256 ^ width n
unfolding width
width_holds n = divisions_hold n n (omega arith)

-- and it is the least that does
pub width_least : (w n : ℕ) → n < 256 ^ w → width n ≤ w
width_least zero n h = omega (arith, width-zero n (omega arith))
width_least (suc w) n h = elim (dec_lt 0 n) [
  | yes p ↦ omega (arith, width-suc n p, width_least w (n / 256) ((div-lt_iff_lt-mul (zero-lt-suc 255)).1 (rw pow-suc at h)))
  | no z ↦ omega (arith, width-zero n (omega arith))
]

pub width_more : (w n : ℕ) → 256 ^ w ≤ n → w < width n
width_more w n h = elim (dec_lt w (width n)) [
  | yes l ↦ l
  | no g ↦ let le : 256 ^ width n ≤ 256 ^ w = pow-le-pow_right (zero-lt-suc 255) (omega arith) in absurd (omega (arith, width_holds n))
]

pub length-uint : (n : ℕ) → length (uint_bytes n) ≡ width n
length-uint n = length-big_endian (width n) n

-- an integer of 64 bits has at most eight bytes
pub uint_bound : (n : ℕ) → n < 2 ^ 64 → length (uint_bytes n) ≤ 8
uint_bound n h = omega (arith, length-uint n, width_least 8 n h)

-- an integer is read back from its bytes
pub uint-number : (n : ℕ) → number (uint_bytes n) ≡ n
uint-number n = number-big_endian (width n) n (width_holds n)

pub uint-zero : (n : ℕ) → n ≤ 0 → uint_bytes n ≡ []
unfolding big_endian
uint-zero n h = rw (width-zero n h)

pub uint_one : (n : ℕ) → 0 < n → n < 256 → uint_bytes n ≡ n ∷ []
unfolding big_endian
uint_one n p h =
    let one : width n ≡ 1 = width-suc n p ∙ ap suc (width-zero (n / 256) (omega arith)) in
    rw (one, mod-eq_of_lt h)

-- the first byte is not 0
pub uint_lead : (n : ℕ) → 0 < n → (0 < length (uint_bytes n)) × (0 < get_or (uint_bytes n) 0 0)
uint_lead n p =
    let e : width n ≡ suc (width (n / 256)) = width-suc n p in
    let low : 256 ^ width (n / 256) ≤ n = least in
    (omega (arith, length-uint n), rw e (big_endian_lead (width (n / 256)) n low (rw e at (width_holds n))))
  where
    least : 256 ^ width (n / 256) ≤ n
    least = elim (dec_lt n (256 ^ width (n / 256))) [
      | yes l ↦ absurd (omega (arith, width_least (width (n / 256)) n l, width-suc n p))
      | no g ↦ omega arith
    ]

-- bytes without a leading zero are read back from their number
pub number-uint : (s : Bytes) → IsBytes s → (0 < length s → 0 < get_or s 0 0) → uint_bytes (number s) ≡ s
unfolding number_from big_endian
number-uint [] bs lead = uint-zero 0 (omega arith)
number-uint (b ∷ s) bs lead =
    ap (λ (w : ℕ). big_endian w (number (b ∷ s))) wide ∙ big_endian-number (b ∷ s) bs
  where
    below : number (b ∷ s) < 256 ^ suc (length s)
    below = rw (zero-add (suc (length s))) at (number_from_less (b ∷ s) 0 0 (omega arith) bs)

    above : 256 ^ length s ≤ number (b ∷ s)
    above =
        let one : 1 * 256 ^ length s ≤ (0 * 256 + b) * 256 ^ length s = mul-le-mul_right (256 ^ length s) (omega (arith, lead (omega arith))) in
        le_trans (rw one-mul at one) (number_from_least s (0 * 256 + b))

    wide : width (number (b ∷ s)) ≡ suc (length s)
    wide = omega (arith, width_least (suc (length s)) (number (b ∷ s)) below, width_more (length s) (number (b ∷ s)) above)
