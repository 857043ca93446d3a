-- The items of a list's payload.
use Rattle.std.specs.Prelude.{ℕ, zero, suc, pred, List, [], ◌∷◌, Option, Some, None}
use Rattle.octets.specs.Octets.{Bytes, part}
use Rattle.rlp.specs.Encoding.{Item, item_of}
use Rattle.rlp.specs.Reading.{head, extent}
use Rattle.rlp.specs.declared.Item as read

-- the item at the front of s, and then others
abbrev pub cons_item : Option read.Item → Bytes → List Item → List Item
cons_item (Some i) s others = item_of i.list (part s i.skip i.size) ∷ others
cons_item None s others = []

-- the items of s after its next n bytes, up to the first that is not whole and canonical
abbrev pub items_after : ℕ → Bytes → List Item
items_after n [] = []
items_after (suc n) (b ∷ s) = items_after n s
items_after zero (b ∷ s) = cons_item (head (b ∷ s)) (b ∷ s) (items_after (pred (extent (head (b ∷ s)))) s)

-- the items of s, up to the first that is not whole and canonical
unfoldable pub items_of : Bytes → List Item
items_of s = items_after 0 s
