-- Ethereum's RLP: what the encoding of an item is. Headers are shortest-form.
use Rattle.std.specs.Prelude.{ℕ, ◌+◌, ◌^◌, ◌<◌, Bool, true, false, cond, List, [], ◌∷◌, ◌++◌, length, ltb}
use Rattle.octets.specs.Octets.{Bytes}
use Rattle.rlp.specs.Numbers.{uint_bytes}

-- an item, to the depth of one header: a string of bytes, or a list by the bytes of its items
pub data Item : Type 0 where
  string : Bytes → Item
  list : Bytes → Item

-- the header of a payload of n bytes; base is 0x80 for a string and 0xc0 for a list
unfoldable pub header : ℕ → ℕ → Bytes
header base n = cond (ltb n 56) ((base + n) ∷ []) ((base + 55 + length (uint_bytes n)) ∷ uint_bytes n)

-- one byte below 0x80, which is its own encoding
abbrev pub is_plain : Bytes → Bool
is_plain [] = false
is_plain (b ∷ []) = ltb b 0x80
is_plain (b ∷ (a ∷ s)) = false

unfoldable pub encode : Item → Bytes
encode (string s) = cond (is_plain s) s (header 0x80 (length s) ++ s)
encode (list p) = header 0xc0 (length p) ++ p

-- the payload of a list: its items' encodings, one after the other
abbrev pub encodes : List Item → Bytes
encodes [] = []
encodes (i ∷ is) = encode i ++ encodes is

-- the item of a payload, by its kind
abbrev pub item_of : Bool → Bytes → Item
item_of true p = list p
item_of false p = string p

-- an item's kind, its payload, and the bytes of its encoding before the payload
abbrev pub is_list : Item → Bool
is_list (string s) = false
is_list (list p) = true

abbrev pub payload_of : Item → Bytes
payload_of (string s) = s
payload_of (list p) = p

unfoldable pub prefix : Item → Bytes
prefix (string s) = cond (is_plain s) [] (header 0x80 (length s))
prefix (list p) = header 0xc0 (length p)

-- the items' lengths fit a header
abbrev pub Small : List Item → Type 0
Small is = length (encodes is) < 2 ^ 64
