-- What is claimed of big-endian numbers: "Byte-width facts are shown once for any width."
use Rattle.std.specs.Prelude.{ℕ, ◌^◌, ◌<◌, ◌≡◌, length}
use Rattle.octets.specs.Octets.{Bytes, IsBytes, number, big_endian}

-- a number is read back from its bytes, at every width that holds it
abbrev pub NumberBigEndian : Type 0
NumberBigEndian = (w x : ℕ) → x < 256 ^ w → number (big_endian w x) ≡ x

-- bytes are read back from their number, at their own width
abbrev pub BigEndianNumber : Type 0
BigEndianNumber = (s : Bytes) → IsBytes s → big_endian (length s) (number s) ≡ s
