-- What is claimed of strict RLP: what is written reads back, what is read is the encoding.
use Rattle.std.specs.Prelude.{ℕ, ◌+◌, ◌^◌, ◌<◌, ◌≡◌, Bool, true, Some, List, ◌++◌, length, drop}
use Rattle.octets.specs.Octets.{Bytes, Slice, part}
use Rattle.rlp.specs.Numbers.{uint_bytes}
use Rattle.rlp.specs.Encoding.{encode, encodes, item_of, is_list, payload_of, prefix, Small}
use Rattle.rlp.specs.Encoding as rlp
use Rattle.rlp.specs.Reading.{item, head, whole, uint_of}

-- ---- an item

-- the encoding of any item is read as that item, whatever follows it
abbrev pub ReadItem : Type 0
ReadItem =
    (i : rlp.Item) (rest : Bytes) → length (payload_of i) < 2 ^ 64
    → head (encode i ++ rest) ≡ item (is_list i) (length (prefix i)) (length (payload_of i))

-- what is read as an item is that item's encoding, and what follows it
abbrev pub ReadIsEncoding : Type 0
ReadIsEncoding =
    (s : Bytes) (l : Bool) (skip size : ℕ) → Slice s → head s ≡ item l skip size
    → encode (item_of l (part s skip size)) ++ drop (skip + size) s ≡ s

-- ---- the payload of a list

-- the encodings of items, one after the other, are whole items and nothing else
abbrev pub WholeEncodes : Type 0
WholeEncodes = (is : List rlp.Item) → Small is → whole (encodes is) ≡ true

-- whole items and nothing else are the encodings of items
abbrev pub WholeIsEncodes : Type 0
WholeIsEncodes = (s : Bytes) → Slice s → whole s ≡ true → (is : List rlp.Item) × (encodes is ≡ s)

-- ---- an integer

abbrev pub UintRead : Type 0
UintRead = (n : ℕ) → n < 2 ^ 64 → uint_of (uint_bytes n) ≡ Some n

abbrev pub UintSound : Type 0
UintSound = (s : Bytes) (n : ℕ) → Slice s → uint_of s ≡ Some n → s ≡ uint_bytes n
