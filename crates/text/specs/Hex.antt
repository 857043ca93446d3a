-- Byte strings as text: two lower-case hex digits for each byte.
use Rattle.std.specs.Prelude.{ℕ, ◌+◌, ◌*◌, ◌/◌, ◌%◌, Bool, true, false, cond, not, ◌&&◌, ◌||◌, [], ◌∷◌, ltb, leb}
use Rattle.octets.specs.Octets.{Bytes}
use Rattle.lists.specs.Lists.{empty}

-- the digit of a number below 16: `0` is 48, `a` is 97
abbrev pub hex_digit : ℕ → ℕ
hex_digit d = cond (ltb d 10) (48 + d) (87 + d)

abbrev pub hex : Bytes → Bytes
hex [] = []
hex (b ∷ s) = hex_digit (b / 16) ∷ hex_digit (b % 16) ∷ hex s

abbrev pub is_hex_digit : ℕ → Bool
is_hex_digit b = (leb 48 b && leb b 57) || (leb 97 b && leb b 102)

-- a hex digit of either case
abbrev pub is_any_hex_digit : ℕ → Bool
is_any_hex_digit b = (leb 65 b && leb b 70) || is_hex_digit b

-- `A` to `F` as `a` to `f`
abbrev pub lower : ℕ → ℕ
lower b = cond (leb 65 b && leb b 70) (b + 32) b

-- whole bytes in lower-case hex
abbrev pub hex_pairs : Bytes → Bool
hex_pairs [] = true
hex_pairs (a ∷ []) = false
hex_pairs (a ∷ b ∷ s) = (is_hex_digit a && is_hex_digit b) && hex_pairs s

-- and never empty
unfoldable pub is_hex : Bytes → Bool
is_hex s = not (empty s) && hex_pairs s

-- the value of a hex digit: `1` is 0x31, `a` is 0x61
unfoldable pub hex_value : ℕ → ℕ
hex_value b = cond (ltb b 58) (b % 16) ((b % 16 + 9) % 16)

-- the bytes whose hex is s
unfoldable pub unhex : Bytes → Bytes
unhex [] = []
unhex (a ∷ []) = []
unhex (a ∷ b ∷ s) = (hex_value a * 16 + hex_value b) ∷ unhex s
