-- Decimal numbers as text: ASCII digits, no leading zero.
use Rattle.std.specs.Prelude.{ℕ, zero, suc, ◌+◌, ◌-◌, ◌*◌, ◌/◌, ◌%◌, Bool, true, false, cond, ◌&&◌, [], ◌∷◌, ◌++◌, ltb, leb, eqb, Option, Some, None}
use Rattle.octets.specs.Octets.{Bytes}
use Rattle.lists.specs.Lists.{empty}

-- the digits of n, if `places` are enough: those of n / 10, if it is not 0, and then the last
unfoldable pub digits : ℕ → ℕ → Bytes
digits zero n = []
digits (suc places) n =
    let more = digits places (n / 10) ++ ((48 + n % 10) ∷ []) in
    cond (ltb n 10) ((48 + n) ∷ []) more

-- the decimal of n: more than n places are never needed, but one for 0
unfoldable pub decimal : ℕ → Bytes
decimal n = digits (suc n) n

abbrev pub is_digit : ℕ → Bool
is_digit b = leb 48 b && leb b 57

-- the number whose digits are those of a and then those of s, if it is at most limit and s is digits
abbrev pub digits_from : ℕ → ℕ → Bytes → Option ℕ
digits_from limit a [] = Some a
digits_from limit a (b ∷ s) = cond (is_digit b && leb (a * 10 + (b - 48)) limit) (digits_from limit (a * 10 + (b - 48)) s) None

-- not empty, and no leading zero: `0` stands alone
abbrev pub well_begun : Bytes → Bool
well_begun [] = false
well_begun (b ∷ s) = cond (eqb b 48) (empty s) true

-- the number that s spells, if it is at most limit
unfoldable pub decimal_of : ℕ → Bytes → Option ℕ
decimal_of limit s = cond (well_begun s) (digits_from limit 0 s) None
