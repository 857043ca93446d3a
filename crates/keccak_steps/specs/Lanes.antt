-- Lanes of 64 bits, and states of 5 by 5 lanes. Assumes nothing.
use Rattle.std.specs.Prelude.{List, [], ◌∷◌, ℕ, zero, suc, ◌+◌, ◌-◌, ◌*◌, ◌/◌, ◌%◌, ◌^◌, get_or}
use Rattle.std.specs.Int.Bits.{bit_and, bit_or, bit_xor}

infixl 68 ◌⊕◌
-- the exclusive or of two lanes, bit by bit
abbrev pub ◌⊕◌ : ℕ → ℕ → ℕ
x ⊕ y = bit_xor x y

-- (not x) and y, on 64 bits
abbrev pub and_not : ℕ → ℕ → ℕ
and_not x y = bit_and ((2 ^ 64 - 1) - x) y

-- the lane x rotated by n bits towards its high end; n is below 64
abbrev pub rot : ℕ → ℕ → ℕ
rot x n = bit_or ((x * 2 ^ n) % 2 ^ 64) (x / 2 ^ (64 - n))

-- f from, f (from + 1), .., n of them
abbrev pub each : (ℕ → ℕ) → ℕ → ℕ → List ℕ
each f from zero = []
each f from (suc n) = f from ∷ each f (suc from) n

-- the n numbers f 0, f 1, ..
abbrev pub list_of : ℕ → (ℕ → ℕ) → List ℕ
list_of n f = each f 0 n

-- the lane at (x, y), both taken modulo 5: lane (x, y) of a state stands at x + 5 * y
abbrev pub lane : List ℕ → ℕ → ℕ → ℕ
lane a x y = get_or a (x % 5 + 5 * (y % 5)) 0

-- the state whose lane (x, y) is f x y
abbrev pub state_of : (ℕ → ℕ → ℕ) → List ℕ
state_of f = list_of 25 (λ i. f (i % 5) (i / 5))
