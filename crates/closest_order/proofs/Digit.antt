-- A binary digit of the distance of two hashes, by the byte that it lies in. Assumes nothing.
use Prim.Native.Nat.{ℕ, zero, suc, ◌+◌, ◌-◌, ◌*◌, ◌/◌, ◌%◌, ◌^◌, ◌≤◌, ◌<◌}
use mathlib.Core.Path.{◌≡◌, refl, sym, ap, ◌∙◌}
use native.Mathlib.Nat.{div-one, add-zero}
use native.Mathlib.Omega.{arith}
use lib.Bits.{bit_xor, xor_lt}
use lib.Dec.{eqb}
use lib.ListN.{length, get_or}
use lib.Pow.{shr-shr, field, mod-mod-pow}
use Rattle.octets.specs.Octets.{Bytes, IsBytes}
use Rattle.octets.proofs.Laws.{part_all}
use Rattle.distance.specs.Distance.{distance}
use Rattle.distance.proofs.Laws.{up_to, up_to_next}
use Rattle.closest_order.specs.Taking.{is_set}

-- a digit of the lowest byte
low_digit : (q y r : ℕ) → r < 8 → y < 256 → (q * 256 + y) / 2 ^ r % 2 ≡ y / 2 ^ r % 2
low_digit q y r h less =
    let n : ℕ = q * 256 + y in
    let byte : n % 256 ≡ y = omega arith in
    let all : 7 - r + 1 + r ≡ 8 = omega arith in
    let cut : n % 2 ^ (7 - r + 1 + r) / 2 ^ r ≡ n / 2 ^ r % 2 ^ (7 - r + 1) = field n (7 - r + 1) r in
    sym (mod-mod-pow (n / 2 ^ r) (7 - r) 1) ∙ ap (λ m. m % 2) (sym (rw all at cut)) ∙ ap (λ m. m / 2 ^ r % 2) byte

module _ (a b : Bytes) (la : length a ≡ 32) (lb : length b ≡ 32) (ba : IsBytes a) (bb : IsBytes b) where
  byte-less : (k : ℕ) → bit_xor (get_or a k 0) (get_or b k 0) < 256
  byte-less k = xor_lt 8 (get_or a k 0) (get_or b k 0) (ba k) (bb k)

  -- without its m lowest bytes
  shifted : (m k : ℕ) → k + m ≤ 32 → up_to a b (k + m) / 2 ^ (8 * m) ≡ up_to a b k
  shifted zero k h = div-one (up_to a b (k + 0)) ∙ ap (up_to a b) (add-zero k)
  shifted (suc m) k h =
      let e : k + suc m ≡ k + m + 1 = omega arith in
      let f : 8 * suc m ≡ 8 + 8 * m = omega arith in
      let one : up_to a b (k + m + 1) / 2 ^ 8 ≡ up_to a b (k + m) = rw (up_to_next a b la lb ba bb (k + m) (omega arith)) (omega (arith, byte-less (k + m))) in
      rw (e, f) (sym (shr-shr (up_to a b (k + m + 1)) 8 (8 * m)) ∙ ap (λ n. n / 2 ^ (8 * m)) one ∙ shifted m k (omega arith))

  -- place i lies in byte 31 - i / 8 from the front, there at place i % 8
  pub digit : (i : ℕ) → i < 256 → is_set i (distance a b) ≡ eqb (bit_xor (get_or a (31 - i / 8) 0) (get_or b (31 - i / 8) 0) / 2 ^ (i % 8) % 2) 1
  unfolding is_set
  digit i h =
      let m : ℕ = i / 8 in
      let k : ℕ = 31 - m in
      let parts : i ≡ 8 * m + i % 8 = omega arith in
      let all : k + 1 + m ≡ 32 = omega arith in
      let whole : distance a b ≡ up_to a b (k + 1 + m) = rw (all, part_all a 32 (omega arith), part_all b 32 (omega arith)) refl in
      let low : distance a b / 2 ^ (8 * m) ≡ up_to a b k * 256 + bit_xor (get_or a k 0) (get_or b k 0) =
      ap (λ n. n / 2 ^ (8 * m)) whole ∙ shifted m (k + 1) (omega arith) ∙ up_to_next a b la lb ba bb k (omega arith) in
      ap (λ n. eqb (n % 2) 1)
      (ap (λ j. distance a b / 2 ^ j) parts ∙ sym (shr-shr (distance a b) (8 * m) (i % 8)) ∙ ap (λ n. n / 2 ^ (i % 8)) low)
      ∙ ap (λ n. eqb n 1) (low_digit (up_to a b k) (bit_xor (get_or a k 0) (get_or b k 0)) (i % 8) (omega arith) (byte-less k))
