-- Laws of the distance of two hashes and of its length in binary digits. Assumes nothing.
use mathlib.Core.Path.{◌≡◌, refl, ap, ◌∙◌}
use Prim.Native.Nat.{ℕ, zero, suc, ◌+◌, ◌-◌, ◌*◌, ◌^◌, ◌≤◌, ◌<◌}
use native.Mathlib.Nat.{pow-suc, zero-add, zero-mul}
use native.Mathlib.Omega.{arith}
use lib.Bits.{bit_xor, xor_block, xor_lt, xor_add_and, and_le_l, and_le_r}
use lib.Count.{count_leading_zeros, leading_of_zero, leading_top, leading_unique}
use lib.Pow.{pow-add}
use lib.ListN.{length, get_or}
use Rattle.octets.specs.Octets.{Bytes, IsBytes, part, number_from, number, big_endian}
use Rattle.octets.proofs.Laws.{number_next, part_all, number_from_less, big_endian-number}
use Rattle.distance.specs.Distance.{distance, bit_length}

-- j is the place of d's highest binary digit
pub record Top (j d : ℕ) : Type 0 where
  pub least : 2 ^ j ≤ d
  pub below : d < 2 ^ suc j

pub bit_length_top : (j d : ℕ) → j < 256 → Top j d → bit_length d ≡ suc j
unfolding bit_length
bit_length_top j d h t =
    let more : 2 ^ suc j ≤ 2 * d + 1 = rw pow-suc (omega (arith, t.least)) in
    omega (arith, leading_unique 256 d (256 - suc j) (suc j) (omega arith) t.below more)

pub bit_length-zero : bit_length 0 ≡ 0
unfolding bit_length
bit_length-zero = rw leading_of_zero refl

pub bit_length_positive : (d : ℕ) → 0 < d → d < 2 ^ 256 → 0 < bit_length d
unfolding bit_length
bit_length_positive d h g = omega (arith, (leading_top 256 d h g).1)

pub bit_length-most : (d : ℕ) → bit_length d ≤ 256
unfolding bit_length
bit_length-most d = omega arith

xor_equal : (x y : ℕ) → bit_xor x y ≡ 0 → x ≡ y
xor_equal x y h = omega (arith, xor_add_and x y, and_le_l x y, and_le_r x y)

-- the distance of the first i bytes
abbrev pub up_to : Bytes → Bytes → ℕ → ℕ
up_to a b i = distance (part a 0 i) (part b 0 i)

pub none : (a b : Bytes) → up_to a b 0 ≡ 0
unfolding distance part number_from
none a b = refl

module _ (a b : Bytes) (la : length a ≡ 32) (lb : length b ≡ 32) (ba : IsBytes a) (bb : IsBytes b) where
  pub distance-less : distance a b < 2 ^ 256
  unfolding distance
  distance-less =
      let na : number a < 2 ^ 256 = rw la at (number_from_less a 0 0 (omega arith) ba) in
      let nb : number b < 2 ^ 256 = rw lb at (number_from_less b 0 0 (omega arith) bb) in
      xor_lt 256 (number a) (number b) na nb

  -- only equal hashes have the distance 0
  pub distance-zero : distance a b ≡ 0 → a ≡ b
  unfolding distance
  distance-zero h =
      let same : number a ≡ number b = xor_equal (number a) (number b) h in
      let from_a : big_endian 32 (number a) ≡ a = rw la at (big_endian-number a ba) in
      let from_b : big_endian 32 (number b) ≡ b = rw lb at (big_endian-number b bb) in
      cc

  -- one byte more
  pub up_to_next : (i : ℕ) → i < 32 → up_to a b (i + 1) ≡ up_to a b i * 256 + bit_xor (get_or a i 0) (get_or b i 0)
  unfolding distance
  up_to_next i h =
      let na : number (part a 0 (i + 1)) ≡ number (part a 0 i) * 256 + get_or a i 0 = rw zero-add at (number_next a 0 i (omega arith)) in
      let nb : number (part b 0 (i + 1)) ≡ number (part b 0 i) * 256 + get_or b i 0 = rw zero-add at (number_next b 0 i (omega arith)) in
      rw (na, nb) (xor_block 8 (number (part a 0 i)) (number (part b 0 i)) (get_or a i 0) (get_or b i 0) (ba i) (bb i))

  -- the highest digit is k bytes higher after k bytes more
  top-after : (k i j : ℕ) → i + k ≤ 32 → Top j (up_to a b i) → Top (j + 8 * k) (up_to a b (i + k))
  top-after zero i j h t =
      let e : i + 0 ≡ i = omega arith in
      let f : j + 8 * 0 ≡ j = omega arith in
      rw (e, f) t
  top-after (suc k) i j h t =
      let x : ℕ = bit_xor (get_or a i 0) (get_or b i 0) in
      let small : x < 256 = xor_lt 8 (get_or a i 0) (get_or b i 0) (ba i) (bb i) in
      let least : 2 ^ (j + 8) ≤ up_to a b (i + 1) = rw (up_to_next i (omega arith), pow-add) (omega (arith, t.least)) in
      let e : suc (j + 8) ≡ suc j + 8 = omega arith in
      let below : up_to a b (i + 1) < 2 ^ suc (j + 8) = rw (up_to_next i (omega arith), e, pow-add) (omega (arith, t.below)) in
      let more : Top (j + 8 + 8 * k) (up_to a b (i + 1 + k)) = top-after k (i + 1) (j + 8) (omega arith) (record { least = least; below = below }) in
      let e₁ : j + 8 + 8 * k ≡ j + 8 * suc k = omega arith in
      let e₂ : i + 1 + k ≡ i + suc k = omega arith in
      rw (e₁, e₂) at more

  -- a turn with equal bytes
  pub equal-turn : (i : ℕ) → i < 32 → up_to a b i ≡ 0 → bit_xor (get_or a i 0) (get_or b i 0) ≡ 0 → up_to a b (i + 1) ≡ 0
  equal-turn i h same e = up_to_next i h ∙ rw (same, e) refl

  -- the hashes are equal
  pub all-equal : up_to a b 32 ≡ 0 → bit_length (distance a b) ≡ 0
  all-equal e = rw (part_all a 32 (omega arith), part_all b 32 (omega arith)) at (ap bit_length e ∙ bit_length-zero)

  -- the first byte that differs, after i equal ones
  pub differs_at : (i : ℕ) → i < 32 → up_to a b i ≡ 0 → (bit_xor (get_or a i 0) (get_or b i 0) ≡ 0 → ⊥)
      → 8 * (32 - i) - count_leading_zeros 8 (bit_xor (get_or a i 0) (get_or b i 0)) ≡ bit_length (distance a b)
  differs_at i h same differs =
      let x : ℕ = bit_xor (get_or a i 0) (get_or b i 0) in
      let small : x < 2 ^ 8 = xor_lt 8 (get_or a i 0) (get_or b i 0) (ba i) (bb i) in
      let t = leading_top 8 x (omega arith) small in
      let j : ℕ = t.0 in
      let e : up_to a b (i + 1) ≡ x = up_to_next i h ∙ rw (same, zero-mul, zero-add) refl in
      let top : Top (j + 8 * (31 - i)) (up_to a b (i + 1 + (31 - i))) =
      top-after (31 - i) (i + 1) j (omega arith) (rw e (record { least = t.2; below = t.3 })) in
      let all : i + 1 + (31 - i) ≡ 32 = omega arith in
      let top32 : Top (j + 8 * (31 - i)) (distance a b) = rw (all, part_all a 32 (omega arith), part_all b 32 (omega arith)) at top in
      omega (arith, t.1, bit_length_top (j + 8 * (31 - i)) (distance a b) (omega (arith, t.1)) top32)
