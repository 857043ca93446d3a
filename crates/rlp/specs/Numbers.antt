-- Integers as big-endian bytes without leading zeros.
use Rattle.std.specs.Prelude.{ℕ, zero, suc, ◌/◌, cond, eqb}
use Rattle.octets.specs.Octets.{Bytes, big_endian}

-- how many divisions by 256 make n 0, in at most `steps`
unfoldable pub divisions : ℕ → ℕ → ℕ
divisions zero n = 0
divisions (suc steps) n = cond (eqb n 0) 0 (suc (divisions steps (n / 256)))

-- the least number of bytes that holds n, none for 0: n divisions are enough
unfoldable pub width : ℕ → ℕ
width n = divisions n n

-- the bytes of an integer
abbrev pub uint_bytes : ℕ → Bytes
uint_bytes n = big_endian (width n) n
