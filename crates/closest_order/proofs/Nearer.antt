-- Of two buckets, the one with the higher number k is nearer to the target where own XOR target has its digit k set, and farther where it
-- hasn't. Assumes nothing.
use Prim.Native.Nat.{ℕ, zero, suc, ◌+◌, ◌*◌, ◌/◌, ◌%◌, ◌^◌, ◌<◌, min}
use mathlib.Core.Path.{◌≡◌, sym, ap, ◌∙◌}
use native.Mathlib.Nat.{div-lt_iff_lt-mul, div-mul-le_self}
use native.Mathlib.Omega.{arith}
use lib.Pow.{pow_pos}
use lib.Bits.{bit_xor, differ, xor_step, xor_shr, xor_add_and, and_le_l, and_le_r}

xor_equal : (x y : ℕ) → bit_xor x y ≡ 0 → x ≡ y
xor_equal x y h = omega (arith, xor_add_and x y, and_le_l x y, and_le_r x y)

-- of two binary digits
differ_min : (x y : ℕ) → x < 2 → y < 2 → differ x y + min x y * 2 ≡ x + y
differ_min zero y hx hy = omega arith
differ_min (suc zero) zero hx hy = omega arith
differ_min (suc zero) (suc zero) hx hy = omega arith
differ_min (suc zero) (suc (suc y)) hx hy = absurd (omega arith)
differ_min (suc (suc x)) y hx hy = absurd (omega arith)

-- the lowest digits of two numbers
lowest : (x y : ℕ) → differ (x % 2) (y % 2) + min (x % 2) (y % 2) * 2 ≡ x % 2 + y % 2
lowest x y = differ_min (x % 2) (y % 2) (omega arith) (omega arith)

-- a is in bucket k of own, b in a lower one: from place k on b is own, and a is own but for its digit k
module _ (own t a b k : ℕ) (bucket-a : bit_xor own a / 2 ^ k ≡ 1) (bucket-b : bit_xor own b / 2 ^ k ≡ 0) where
  abbrev o : ℕ
  o = own / 2 ^ k

  abbrev A : ℕ
  A = a / 2 ^ k

  abbrev T : ℕ
  T = t / 2 ^ k

  b-part : b / 2 ^ k ≡ o
  b-part = sym (xor_equal o (b / 2 ^ k) (sym (xor_shr own b k) ∙ bucket-b))

  a-xor : bit_xor (o / 2) (A / 2) * 2 + differ (o % 2) (A % 2) ≡ 1
  a-xor = sym (xor_step o A) ∙ sym (xor_shr own a k) ∙ bucket-a

  a-high : A / 2 ≡ o / 2
  a-high = sym (xor_equal (o / 2) (A / 2) (omega (arith, a-xor)))

  a-digit : o % 2 + A % 2 ≡ 1
  a-digit = omega (arith, a-xor, lowest o A)

  far-a : bit_xor t a / 2 ^ k ≡ bit_xor (T / 2) (o / 2) * 2 + differ (T % 2) (A % 2)
  far-a = xor_shr t a k ∙ xor_step T A ∙ ap (λ x. bit_xor (T / 2) x * 2 + differ (T % 2) (A % 2)) a-high

  far-b : bit_xor t b / 2 ^ k ≡ bit_xor (T / 2) (o / 2) * 2 + differ (T % 2) (o % 2)
  far-b = xor_shr t b k ∙ ap (bit_xor T) b-part ∙ xor_step T o

  digit-of-x : bit_xor own t / 2 ^ k % 2 ≡ differ (o % 2) (T % 2)
  digit-of-x = ap (λ x. x % 2) (xor_shr own t k ∙ xor_step o T) ∙ omega (arith, lowest o T)

  divided : (x y : ℕ) → x / 2 ^ k < y / 2 ^ k → x < y
  divided x y h = omega (arith, (div-lt_iff_lt-mul {k = 2 ^ k} {x = x} {y = y / 2 ^ k} (pow_pos k)).0 h, div-mul-le_self y (2 ^ k))

  -- digit k of own XOR t is set: the one in bucket k is nearer
  pub nearer : bit_xor own t / 2 ^ k % 2 ≡ 1 → bit_xor t a < bit_xor t b
  nearer h = divided (bit_xor t a) (bit_xor t b) (omega (arith, far-a, far-b, a-digit, digit-of-x, lowest o T, lowest T A, lowest T o))

  -- it is clear: that one is farther
  pub farther : bit_xor own t / 2 ^ k % 2 ≡ 0 → bit_xor t b < bit_xor t a
  farther h = divided (bit_xor t b) (bit_xor t a) (omega (arith, far-a, far-b, a-digit, digit-of-x, lowest o T, lowest T A, lowest T o))
