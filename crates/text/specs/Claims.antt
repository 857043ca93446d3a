-- What is claimed of texts: a number or a byte string has one text form.
use Rattle.std.specs.Prelude.{ℕ, ◌≤◌, ◌<◌, ◌≡◌, true, length, Some}
use Rattle.octets.specs.Octets.{Bytes, IsBytes}
use Rattle.text.specs.Decimals.{decimal, decimal_of}
use Rattle.text.specs.Hex.{hex, is_hex, unhex}

-- ---- a number

-- what is written reads back
abbrev pub DecimalRead : Type 0
DecimalRead = (limit n : ℕ) → n ≤ limit → decimal_of limit (decimal n) ≡ Some n

-- what is read is the decimal of that number
abbrev pub DecimalSound : Type 0
DecimalSound = (limit : ℕ) (s : Bytes) (n : ℕ) → decimal_of limit s ≡ Some n → (s ≡ decimal n) × (n ≤ limit)

-- ---- a byte string

-- what is written is hex, "whole bytes, never empty", and reads back
abbrev pub HexRead : Type 0
HexRead = (s : Bytes) → IsBytes s → 0 < length s → (is_hex (hex s) ≡ true) × (unhex (hex s) ≡ s)

-- what is read is the hex of those bytes
abbrev pub HexSound : Type 0
HexSound = (s : Bytes) → is_hex s ≡ true → hex (unhex s) ≡ s
