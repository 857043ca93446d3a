-- An equation between terms of and, or, xor and not over three lanes holds where it holds for three bits. Assumes nothing.
use mathlib.Core.Path.{◌≡◌, refl, sym, ap, ap₂, ◌∙◌}
use mathlib.Core.List.{List, [], ◌∷◌}
use Prim.Native.Nat.{ℕ, zero, suc, ◌+◌, ◌-◌, ◌*◌, ◌/◌, ◌%◌, ◌^◌, ◌<◌}
use native.Mathlib.Nat.{pow-suc}
use native.Mathlib.Omega.{arith}
use lib.Arith.{lt-one}
use lib.Bits.{bit_and, bit_or, bit_xor, and_lt, or_lt, xor_lt, and_block, or_block, xor_block}
use lib.ListN.{get_or}
use lib.Pow.{pow_pos}

pub data Term : Type 0 where
  first second third : Term
  none all : Term
  inverse : Term → Term
  and or xor : Term → Term → Term

-- its value, the three lanes having k bits
abbrev pub value : (k x y z : ℕ) → Term → ℕ
value k x y z first = x
value k x y z second = y
value k x y z third = z
value k x y z none = 0
value k x y z all = 2 ^ k - 1
value k x y z (inverse t) = 2 ^ k - 1 - value k x y z t
value k x y z (and s t) = bit_and (value k x y z s) (value k x y z t)
value k x y z (or s t) = bit_or (value k x y z s) (value k x y z t)
value k x y z (xor s t) = bit_xor (value k x y z s) (value k x y z t)

-- its values for all bits
abbrev pub table : Term → List ℕ
table t =
    value 1 0 0 0 t ∷ value 1 0 0 1 t ∷ value 1 0 1 0 t ∷ value 1 0 1 1 t
    ∷ value 1 1 0 0 t ∷ value 1 1 0 1 t ∷ value 1 1 1 0 t ∷ value 1 1 1 1 t ∷ []

module _ (k : ℕ) (x y z : ℕ) (hx : x < 2 ^ k) (hy : y < 2 ^ k) (hz : z < 2 ^ k) where
  bounded : (t : Term) → value k x y z t < 2 ^ k
  bounded first = hx
  bounded second = hy
  bounded third = hz
  bounded none = pow_pos k
  bounded all = omega (arith, pow_pos k)
  bounded (inverse t) = omega (arith, pow_pos k)
  bounded (and s t) = and_lt k (value k x y z s) (value k x y z t) (bounded s) (bounded t)
  bounded (or s t) = or_lt k (value k x y z s) (value k x y z t) (bounded s) (bounded t)
  bounded (xor s t) = xor_lt k (value k x y z s) (value k x y z t) (bounded s) (bounded t)

half : (k n : ℕ) → n < 2 ^ suc k → n / 2 < 2 ^ k
half k n h = let e : 2 ^ suc k ≡ 2 ^ k * 2 = pow-suc 2 k in omega arith

bit : (n : ℕ) → n % 2 < 2
bit n = omega arith

module _ (k : ℕ) (x y z : ℕ) (hx : x < 2 ^ suc k) (hy : y < 2 ^ suc k) (hz : z < 2 ^ suc k) where
  high : Term → ℕ
  high t = value k (x / 2) (y / 2) (z / 2) t

  low : Term → ℕ
  low t = value 1 (x % 2) (y % 2) (z % 2) t

  high_lt : (t : Term) → high t < 2 ^ k
  unfolding high
  high_lt t = bounded k (x / 2) (y / 2) (z / 2) (half k x hx) (half k y hy) (half k z hz) t

  low-lt : (t : Term) → low t < 2
  unfolding low
  low-lt t = bounded 1 (x % 2) (y % 2) (z % 2) (bit x) (bit y) (bit z) t

  -- the lowest bit and the bits above it
  step : (t : Term) → value (suc k) x y z t ≡ high t * 2 + low t
  unfolding high low
  step first = omega arith
  step second = omega arith
  step third = omega arith
  step none = refl
  step all = let e : 2 ^ suc k ≡ 2 ^ k * 2 = pow-suc 2 k in omega (arith, pow_pos k)
  step (inverse t) =
      let e : 2 ^ suc k ≡ 2 ^ k * 2 = pow-suc 2 k in
      omega (arith, step t, high_lt t, low-lt t)
  step (and s t) = ap₂ bit_and (step s) (step t) ∙ and_block 1 (high s) (high t) (low s) (low t) (low-lt s) (low-lt t)
  step (or s t) = ap₂ bit_or (step s) (step t) ∙ or_block 1 (high s) (high t) (low s) (low t) (low-lt s) (low-lt t)
  step (xor s t) = ap₂ bit_xor (step s) (step t) ∙ xor_block 1 (high s) (high t) (low s) (low t) (low-lt s) (low-lt t)

by_bit : (P : ℕ → Type 0) → P 0 → P 1 → (n : ℕ) → n < 2 → P n
by_bit P p q zero h = p
by_bit P p q (suc zero) h = q
by_bit P p q (suc (suc n)) h = absurd (omega arith)

module _ (s t : Term) (e : table s ≡ table t) where
  Same : (k x y z : ℕ) → Type 0
  Same k x y z = value k x y z s ≡ value k x y z t

  entry : (n : ℕ) → get_or (table s) n 0 ≡ get_or (table t) n 0
  entry n = ap (λ (l : List ℕ). get_or l n 0) e

  bits : (x y z : ℕ) → x < 2 → y < 2 → z < 2 → Same 1 x y z
  unfolding Same
  bits x y z hx hy hz =
      by_bit (λ x. Same 1 x y z)
      (by_bit (λ y. Same 1 0 y z) (by_bit (λ z. Same 1 0 0 z) (entry 0) (entry 1) z hz) (by_bit (λ z. Same 1 0 1 z) (entry 2) (entry 3) z hz) y hy)
      (by_bit (λ y. Same 1 1 y z) (by_bit (λ z. Same 1 1 0 z) (entry 4) (entry 5) z hz) (by_bit (λ z. Same 1 1 1 z) (entry 6) (entry 7) z hz) y hy)
      x
      hx

  pub same : (k x y z : ℕ) → x < 2 ^ k → y < 2 ^ k → z < 2 ^ k → value k x y z s ≡ value k x y z t
  unfolding Same high low
  same zero x y z hx hy hz = lt-one (bounded 0 x y z hx hy hz s) ∙ sym (lt-one (bounded 0 x y z hx hy hz t))
  same (suc k) x y z hx hy hz =
      step k x y z hx hy hz s
      ∙ ap₂ (λ (h l : ℕ). h * 2 + l)
      (same k (x / 2) (y / 2) (z / 2) (half k x hx) (half k y hy) (half k z hz))
      (bits (x % 2) (y % 2) (z % 2) (bit x) (bit y) (bit z))
      ∙ sym (step k x y z hx hy hz t)
