-- Turns of the loops that go through a payload's items, with kinds beside them.
use Prim.Native.Nat.{ℕ, ◌+◌, ◌-◌, ◌≤◌, ◌<◌}
use Rattle.std.specs.Prelude.{Option, Some, None, is_none}
use mathlib.Core.Path.{◌≡◌, refl, sym, ap, ◌∙◌}
use mathlib.Core.Bool.{Bool, true, false, ◌&&◌}
use mathlib.Core.List.{List, [], ◌∷◌}
use native.Mathlib.Nat.{add-sub_cancel_left}
use native.Mathlib.Numerals.{add-one}
use lib.ListN.{length, get_or, take, drop, length-append, drop_of_length-le}
use lib.Seq.{drop-drop, drop-cons}
use Rattle.octets.specs.Octets.{Bytes, part}
use Rattle.rlp.specs.Encoding.{Item, list, item_of, header, encode}
use Rattle.rlp.specs.Reading.{item, head}
use Rattle.rlp.specs.declared.Item as read
use Rattle.packet_kinds.specs.Payload.{items_of}
use Rattle.packet_kinds.specs.Kinds.{is_leaf, leaves}
use Rattle.packet_kinds.specs.declared.Kind.{Kind}
use Rattle.packet_kinds.proofs.Payload.{items_at, items_item, items_broken}

-- the payload of an item at `at`, as a part of s
pub payload_at : (s : Bytes) (at skip size : ℕ) → take (at + skip + size - (at + skip)) (drop (at + skip) s) ≡ part (drop at s) skip size
unfolding part
payload_at s at skip size = rw (add-sub_cancel_left (at + skip) size, ← drop-drop)

-- a list with its header
pub list_size : (p : Bytes) (k : ℕ) → k ≡ length (header 0xc0 (length p)) → k + length p ≡ length (encode (list p))
unfolding encode
list_size p k e = ap (λ (n : ℕ). n + length p) e ∙ sym (length-append (header 0xc0 (length p)) p)

-- the kinds from i on
module _ (kinds : List Kind) (i : ℕ) where
  pub kinds-end : length kinds ≤ i → drop i kinds ≡ []
  kinds-end h = drop_of_length-le kinds {i = i} h

  pub kinds-next : i < length kinds → (d : Kind) → drop i kinds ≡ get_or kinds i d ∷ drop (i + 1) kinds
  kinds-next more d = rw add-one (drop-cons kinds i d more)

-- one item more
module _ (s : Bytes) (at : ℕ) where
  -- the items from `at` on
  abbrev pub left : List Item
  left = items_of (drop at s)

  module _ {list : Bool} {skip size : ℕ} (e : head (drop at s) ≡ item list skip size) where
    -- the item that the code took there, and those after it
    abbrev pub taken : Item
    taken = item_of list (take (at + skip + size - (at + skip)) (drop (at + skip) s))

    abbrev pub after : List Item
    after = items_of (drop (at + skip + size) s)

    pub left_next : left ≡ taken ∷ after
    left_next = items_at s at e ∙ ap (λ (p : Bytes). item_of list p ∷ after) (sym (payload_at s at skip size))

  pub left-none : head (drop at s) ≡ None → left ≡ []
  left-none e = items_broken (drop at s) e

-- no item at the front of s
pub no_leaves : (s : Bytes) → leaves [] (items_of s) ≡ is_none (head s)
no_leaves s = go (head s) refl
  where
    go : (h : Option read.Item) → head s ≡ h → leaves [] (items_of s) ≡ is_none (head s)
    go (Some i) e = rw (e, items_item s e)
    go None e = rw (e, items_broken s e)

-- leaves: kinds and items side by side
module _ (kinds : List Kind) (i : ℕ) (s : Bytes) (at : ℕ) (more : i < length kinds) (d : Kind) where
  pub leaves_none : head (drop at s) ≡ None → false ≡ leaves (drop i kinds) (left s at)
  leaves_none e = rw (kinds-next kinds i more d, left-none s at e)

  module _ {list : Bool} {skip size : ℕ} (e : head (drop at s) ≡ item list skip size) {b : Bool} (is : b ≡ is_leaf (get_or kinds i d) (taken s at e)) where
    split : leaves (drop i kinds) (left s at) ≡ (b && leaves (drop (i + 1) kinds) (after s at e))
    split = rw (kinds-next kinds i more d, left_next s at e, is)

    pub leaves-item : b ≡ true → leaves (drop (i + 1) kinds) (after s at e) ≡ leaves (drop i kinds) (left s at)
    leaves-item t = sym (split ∙ ap (λ (x : Bool). x && leaves (drop (i + 1) kinds) (after s at e)) t)

    pub leaves-stop : b ≡ false → false ≡ leaves (drop i kinds) (left s at)
    leaves-stop t = sym (split ∙ ap (λ (x : Bool). x && leaves (drop (i + 1) kinds) (after s at e)) t)

pub leaves_end : (kinds : List Kind) (i : ℕ) (is : List Item) → length kinds ≤ i → leaves [] is ≡ leaves (drop i kinds) is
leaves_end kinds i is h = ap (λ (ks : List Kind). leaves ks is) (sym (kinds-end kinds i h))
