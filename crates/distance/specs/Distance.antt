-- The distance of two nodes and the bucket that it falls in (document 01, "Seats and the waiting line").
use Rattle.std.specs.Prelude.{ℕ, ◌+◌, ◌-◌, ◌^◌, Bool, ◌&&◌, leb, ltb}
use Rattle.std.specs.Int.Bits.{bit_xor}
use Rattle.std.specs.Int.Count.{count_leading_zeros}
use Rattle.octets.specs.Octets.{Bytes, number}
use Rattle.keccak.specs.Sponge.{keccak256}

-- "the XOR of the two keys' Keccak-256 hashes, as a big-endian number"
unfoldable pub distance : Bytes → Bytes → ℕ
distance a b = bit_xor (number a) (number b)

-- "Bucket i has 2^i ≤ distance < 2^(i+1)"
unfoldable pub in_bucket : ℕ → ℕ → Bool
in_bucket i d = leb (2 ^ i) d && ltb d (2 ^ (i + 1))

-- the binary digits of a distance, none of them for 0
unfoldable pub bit_length : ℕ → ℕ
bit_length d = 256 - count_leading_zeros 256 d

-- C-14: "the logarithmic distance is 0 for equal hashes and otherwise bucket number plus one, 1 to 256"; source document 000 calls it the
-- "length of differing suffix in bits"
abbrev pub log_distance : Bytes → Bytes → ℕ
log_distance a b = bit_length (distance a b)

-- the number of the bucket that a distance falls in, where it isn't 0
abbrev pub number_of_distance : ℕ → ℕ
number_of_distance d = bit_length d - 1

-- "A table of B buckets keeps numbers 256−B to 255"
abbrev pub keeps_number : ℕ → ℕ → Bool
keeps_number count number = leb (256 - count) number

-- where a kept number's bucket stands in such a table, counted from 0
abbrev pub slot_of_number : ℕ → ℕ → ℕ
slot_of_number count number = number - (256 - count)

-- the key is in its own bucket: the one of that number in the table of the node with the hash `own`
unfoldable pub home : Bytes → ℕ → Bytes → Bool
home own i key = in_bucket i (distance own (keccak256 key))
