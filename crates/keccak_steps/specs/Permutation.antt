-- The permutation Keccak-f[1600], as the Keccak team publishes it: five step mappings make a round, and 24 rounds the permutation.
-- Assumes nothing.
use Rattle.std.specs.Prelude.{Bool, true, false, List, ℕ, zero, suc, ◌+◌, ◌-◌, ◌*◌, ◌/◌, ◌%◌, ◌^◌, ltb, get_or, set, replicate}
use Rattle.keccak_steps.specs.Lanes.{◌⊕◌, and_not, rot, lane, state_of}

-- theta adds the parities of two columns to each lane
abbrev pub parity : List ℕ → ℕ → ℕ
parity a x = lane a x 0 ⊕ lane a x 1 ⊕ lane a x 2 ⊕ lane a x 3 ⊕ lane a x 4

abbrev pub theta : List ℕ → List ℕ
theta a = state_of (λ x y. lane a x y ⊕ (parity a (x + 4) ⊕ rot (parity a (x + 1)) 1))

-- rho rotates each lane by its offset. The offsets are made by a walk: (t + 1) (t + 2) / 2 modulo 64 for t = 0 .. 23, at (1, 0) first
-- and from (x, y) on to (y, 2 x + 3 y); lane (0, 0) is not rotated
abbrev pub walk : ℕ → ℕ → ℕ → ℕ → List ℕ → List ℕ
walk zero t x y r = r
walk (suc n) t x y r = walk n (suc t) y ((2 * x + 3 * y) % 5) (set r (x + 5 * y) ((t + 1) * (t + 2) / 2 % 64))

abbrev pub offsets : List ℕ
offsets = walk 24 0 1 0 (replicate 25 0)

abbrev pub rho : List ℕ → List ℕ
rho a = state_of (λ x y. rot (lane a x y) (lane offsets x y))

-- pi moves the lanes: what stands at (x, y) comes from (x + 3 y, x)
abbrev pub pi : List ℕ → List ℕ
pi a = state_of (λ x y. lane a (x + 3 * y) x)

-- chi is the one step that is not linear
abbrev pub chi : List ℕ → List ℕ
chi a = state_of (λ x y. lane a x y ⊕ and_not (lane a (x + 1) y) (lane a (x + 2) y))

-- iota adds a round constant to lane (0, 0)
abbrev pub iota : ℕ → List ℕ → List ℕ
iota c a = set a 0 (get_or a 0 0 ⊕ c)

unfoldable pub round : ℕ → List ℕ → List ℕ
round c a = iota c (chi (pi (rho (theta a))))

-- x ^ t modulo x ^ 8 + x ^ 6 + x ^ 5 + x ^ 4 + 1 over GF(2), a polynomial being the number with its coefficients for bits
abbrev pub reduced : Bool → ℕ → ℕ
reduced true p = p
reduced false p = 0x171 ⊕ p

unfoldable pub power : ℕ → ℕ
power zero = 1
power (suc t) = let p = power t in reduced (ltb p 128) (2 * p)

-- output t of the linear feedback shift register: the constant term of x ^ t
unfoldable pub rc : ℕ → ℕ
rc t = power t % 2

-- bit 2 ^ j - 1 of round constant i is rc (j + 7 i), for j = 0 .. 6, and the other bits are zero
unfoldable pub constant_bits : ℕ → ℕ → ℕ
constant_bits i zero = 0
constant_bits i (suc j) = constant_bits i j + rc (j + 7 * i) * 2 ^ (2 ^ j - 1)

unfoldable pub round_constant : ℕ → ℕ
round_constant i = constant_bits i 7

-- the first n rounds; the permutation is 24 of them
unfoldable pub rounds : ℕ → List ℕ → List ℕ
rounds zero a = a
rounds (suc n) a = round (round_constant n) (rounds n a)

unfoldable pub keccak_f : List ℕ → List ℕ
keccak_f a = rounds 24 a
