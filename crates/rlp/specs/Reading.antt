-- The strict reader: what stands at the front of a byte string, and the items of a payload.
use Rattle.std.specs.Prelude.{ℕ, zero, suc, pred, ◌+◌, ◌-◌, Bool, true, false, cond, ◌&&◌, [], ◌∷◌, Option, Some, None, length, get_or, drop, ltb, leb, eqb}
use Rattle.octets.specs.Octets.{Bytes, part, number}
use Rattle.rlp.specs.declared.Item.{Item}

-- an item, by its kind, the bytes before its payload and the payload's length
abbrev pub item : Bool → ℕ → ℕ → Option Item
item list skip size = Some (record { list = list; skip = skip; size = size })

-- an item whose payload is the size bytes after the first skip, if s has them
abbrev pub within : Bytes → Bool → ℕ → ℕ → Option Item
within s list skip size = cond (leb size (length s - skip)) (item list skip size) None

-- a payload of 56 bytes or more: k bytes after the first spell its size, without a leading zero
unfoldable pub long : Bytes → Bool → ℕ → Option Item
long s list k =
    cond (leb k (length s - 1))
    (cond (eqb (get_or s 1 0) 0)
    None
    (cond (ltb (number (part s 1 k)) 56) None (within s list (1 + k) (number (part s 1 k)))))
    None

-- tag is the first byte less the kind's base
unfoldable pub sized : Bytes → Bool → ℕ → Option Item
sized s list tag = cond (ltb tag 56) (within s list 1 tag) (long s list (tag - 55))

-- a string of one byte below 0x80 has no header
abbrev pub is_one : Option Item → Bool
is_one (Some i) = eqb i.size 1
is_one None = false

unfoldable pub strict : Bytes → Option Item → Option Item
strict s h = cond (is_one h) (cond (ltb (get_or s 1 0) 0x80) None h) h

-- the item at the front of s
unfoldable pub head : Bytes → Option Item
head s =
    cond (eqb (length s) 0)
    None
    (cond (ltb (get_or s 0 0) 0x80)
    (item false 0 1)
    (cond (ltb (get_or s 0 0) 0xc0) (strict s (sized s false (get_or s 0 0 - 0x80))) (sized s true (get_or s 0 0 - 0xc0))))

-- the bytes of an item with its header; none where it is broken
abbrev pub extent : Option Item → ℕ
extent (Some i) = i.skip + i.size
extent None = 0

abbrev pub is_whole : Option Item → Bool
is_whole (Some i) = true
is_whole None = false

-- the bytes of s after the next n are whole items and nothing else
abbrev pub whole_after : ℕ → Bytes → Bool
whole_after n [] = eqb n 0
whole_after (suc n) (b ∷ s) = whole_after n s
whole_after zero (b ∷ s) = is_whole (head (b ∷ s)) && whole_after (pred (extent (head (b ∷ s)))) s

-- s is the payload of a list: whole items and nothing else
unfoldable pub whole : Bytes → Bool
whole s = whole_after 0 s

-- the number of whole items one after the other in s after the next n bytes
abbrev pub count_after : ℕ → Bytes → ℕ
count_after n [] = 0
count_after (suc n) (b ∷ s) = count_after n s
count_after zero (b ∷ s) = cond (is_whole (head (b ∷ s))) (suc (count_after (pred (extent (head (b ∷ s)))) s)) 0

-- the number of items of a payload; of those before the first that is broken
unfoldable pub count : Bytes → ℕ
count s = count_after 0 s

-- where item n of a payload begins; an item that is broken takes no bytes
abbrev pub offset : ℕ → Bytes → ℕ
offset zero s = 0
offset (suc n) s = extent (head s) + offset n (drop (extent (head s)) s)

abbrev pub leading_zero : Bytes → Bool
leading_zero [] = false
leading_zero (b ∷ s) = eqb b 0

-- the bytes of a string as an integer: at most eight, and no leading zero
unfoldable pub uint_of : Bytes → Option ℕ
uint_of s = cond (ltb 8 (length s)) None (cond (leading_zero s) None (Some (number s)))
