-- The table's bytes: a header of 512 bytes, then its buckets of 2,862 bytes each, in rising bucket number.
use Rattle.std.specs.Prelude.{ℕ, zero, suc, ◌+◌, ◌-◌, ◌*◌, Bool, ◌&&◌, eqb, leb, length, replicate}
use mathlib.Core.List.{List, [], ◌∷◌, ◌++◌, flat_map}
use Rattle.octets.specs.Octets.{Bytes, part, number, big_endian, same_bytes}
use Rattle.bucket_model.specs.Contents.{Contents, encode_bucket, decode_bucket}

-- f 0, f 1, .., n of them
unfoldable pub tabulate : {A : Type 0} → ℕ → (ℕ → A) → List A
tabulate zero f = []
tabulate (suc n) f = f 0 ∷ tabulate n (λ i. f (suc i))

-- ---- where a bucket stands; a slot is a bucket's place in the bytes, counted from 0

abbrev pub offset_of : ℕ → ℕ
offset_of slot = 512 + slot * 2862

-- the bucket's number: "A table of B buckets keeps numbers 256−B to 255"
abbrev pub number_at : ℕ → ℕ → ℕ
number_at count slot = 256 - count + slot

-- ---- writing

-- own hash 32, clock 8, bucket count 2, zeros 470
unfoldable pub encode_header : Bytes → ℕ → ℕ → Bytes
encode_header own clock count = own ++ big_endian 8 clock ++ big_endian 2 count ++ replicate 470 0

unfoldable pub encode_table : Bytes → ℕ → List Contents → Bytes
encode_table own clock buckets = encode_header own clock (length buckets) ++ flat_map encode_bucket buckets

-- ---- reading

abbrev pub own_of : Bytes → Bytes
own_of s = part s 0 32

abbrev pub clock_of : Bytes → ℕ
clock_of s = number (part s 32 8)

abbrev pub count_of : Bytes → ℕ
count_of s = number (part s 40 2)

abbrev pub bucket_bytes : Bytes → ℕ → Bytes
bucket_bytes s slot = part s (offset_of slot) 2862

abbrev pub bucket_at : Bytes → ℕ → Contents
bucket_at s slot = decode_bucket (bucket_bytes s slot)

unfoldable pub buckets_of : Bytes → List Contents
buckets_of s = tabulate (count_of s) (bucket_at s)

-- the header of some table, and as many bytes as its buckets take
unfoldable pub header_sound : Bytes → Bool
header_sound s =
    leb 1 (count_of s)
    && (leb (count_of s) 256 && (eqb (length s) (offset_of (count_of s)) && same_bytes (part s 42 470) (replicate 470 0)))
