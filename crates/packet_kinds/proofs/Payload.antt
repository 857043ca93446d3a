-- Laws of a payload's items.
use Prim.Native.Nat.{ℕ, zero, suc, pred, ◌+◌, ◌≤◌, ◌<◌}
use Rattle.std.specs.Prelude.{Option, Some, None}
use mathlib.Core.Path.{◌≡◌, refl, sym, ap, subst, ◌∙◌}
use mathlib.Core.Bool.{Bool, true, false}
use mathlib.Core.List.{List, [], ◌∷◌, ◌++◌}
use native.Mathlib.Nat.{not-suc-le-zero, le_of_suc-le-suc}
use native.Mathlib.Omega.{arith}
use lib.ListN.{length, drop, length-drop}
use Rattle.octets.specs.Octets.{Bytes, Slice, part}
use Rattle.octets.proofs.Laws.{slice_drop, slice_part}
use Rattle.rlp.specs.Encoding.{Item, string, list, encode, encodes, item_of, is_list, payload_of, prefix, Small}
use Rattle.rlp.specs.Reading.{item, head, extent, whole, count}
use Rattle.rlp.proofs.Reading.{item-bounds, drop_item, count_next, count_broken}
use Rattle.rlp.proofs.Encoding.{read_item, read_payload, read_rest, small-first, small-rest, small_items, whole_is_encodes}
use Rattle.rlp.specs.declared.Item as read
use Rattle.packet_kinds.specs.Payload.{cons_item, items_after, items_of}

-- the bytes to pass over first are dropped
items_drop : (n : ℕ) (s : Bytes) → n ≤ length s → items_after n s ≡ items_after 0 (drop n s)
items_drop zero s h = refl
items_drop (suc n) [] h = absurd (not-suc-le-zero h)
items_drop (suc n) (b ∷ s) h = items_drop n s (le_of_suc-le-suc h)

pub items_none : items_of [] ≡ []
unfolding items_of
items_none = refl

-- the item at the front, and then the others
pub items_item : (s : Bytes) {l : Bool} {skip size : ℕ} → head s ≡ item l skip size → items_of s ≡ item_of l (part s skip size) ∷ items_of (drop (skip + size) s)
unfolding items_of
items_item [] {l} {skip} {size} e = absurd (let b = item-bounds [] e in omega arith)
items_item (b ∷ s) {l} {skip} {size} e =
    let n : ℕ = skip + size in
    let bnd : (0 < n) × (n ≤ suc (length s)) = item-bounds (b ∷ s) e in
    let m : n ≡ suc (pred n) = omega arith in
    ap (λ (h : Option read.Item). cons_item h (b ∷ s) (items_after (pred (extent h)) s)) e
    ∙ ap (λ (is : List Item). item_of l (part (b ∷ s) skip size) ∷ is) (items_drop (pred n) s (omega arith) ∙ ap (λ (k : ℕ). items_after 0 (drop k (b ∷ s))) (sym m))

pub items_broken : (s : Bytes) → head s ≡ None → items_of s ≡ []
unfolding items_of
items_broken [] e = refl
items_broken (b ∷ s) e = ap (λ (h : Option read.Item). cons_item h (b ∷ s) (items_after (pred (extent h)) s)) e

item_is : (i : Item) → item_of (is_list i) (payload_of i) ≡ i
item_is (string s) = refl
item_is (list p) = refl

-- the items of encodings are those that were encoded
pub items_encodes : (is : List Item) → Small is → items_of (encodes is) ≡ is
items_encodes [] h = items_none
items_encodes (i ∷ is) h =
    let s : Bytes = encode i ++ encodes is in
    items_item s (read_item i (encodes is) (small-first i is h))
    ∙ ap (λ (p : Bytes). item_of (is_list i) p ∷ items_of (drop (length (prefix i) + length (payload_of i)) s)) (read_payload i (encodes is))
    ∙ ap (λ (t : Bytes). item_of (is_list i) (payload_of i) ∷ items_of t) (read_rest i (encodes is))
    ∙ ap (λ (x : Item). x ∷ items_of (encodes is)) (item_is i)
    ∙ ap (λ (xs : List Item). i ∷ xs) (items_encodes is (small-rest i is h))

-- a payload of whole items is their encodings
pub encodes_items : (s : Bytes) → Slice s → whole s ≡ true → encodes (items_of s) ≡ s
encodes_items s sl w =
    let r = whole_is_encodes s sl w in
    ap encodes (ap items_of (sym r.1) ∙ items_encodes r.0 (small_items r.0 s sl r.1)) ∙ r.1

-- the items from `at` on: the one that was read there, and those after it
pub items_at : (s : Bytes) (at : ℕ) {l : Bool} {skip size : ℕ} → head (drop at s) ≡ item l skip size
    → items_of (drop at s) ≡ item_of l (part (drop at s) skip size) ∷ items_of (drop (at + skip + size) s)
items_at s at {l} {skip} {size} e =
    items_item (drop at s) e
    ∙ ap (λ (t : Bytes). item_of l (part (drop at s) skip size) ∷ items_of t) (drop_item s at skip size)

-- induction over the items of a payload
items_up : (P : Bytes → Type 0) → ((s : Bytes) → head s ≡ None → P s)
    → ((s : Bytes) (l : Bool) (skip size : ℕ) → head s ≡ item l skip size → P (drop (skip + size) s) → P s) → (fuel : ℕ) (s : Bytes) → length s ≤ fuel → P s
items_up P none one zero s h = go (head s) refl
  where
    go : (x : Option read.Item) → head s ≡ x → P s
    go (Some i) e = absurd (let b = item-bounds s e in omega arith)
    go None e = none s e
items_up P none one (suc fuel) s h = go (head s) refl (λ k p. items_up P none one fuel (drop k s) p)
  where
    go : (x : Option read.Item) → head s ≡ x → ((k : ℕ) → length (drop k s) ≤ fuel → P (drop k s)) → P s
    go (Some i) e more = one s i.list i.skip i.size e (more (i.skip + i.size) (let b = item-bounds s e in omega (arith, length-drop (i.skip + i.size) s)))
    go None e more = none s e

pub items_ind : (P : Bytes → Type 0) → ((s : Bytes) → head s ≡ None → P s)
    → ((s : Bytes) (l : Bool) (skip size : ℕ) → head s ≡ item l skip size → P (drop (skip + size) s) → P s) → (s : Bytes) → P s
items_ind P none one s = items_up P none one (length s) s (omega arith)

-- the number of items
pub count_items : (s : Bytes) → count s ≡ length (items_of s)
count_items =
    items_ind (λ (s : Bytes). count s ≡ length (items_of s)) (λ s e. count_broken s e ∙ ap length (sym (items_broken s e)))
    (λ s l skip size e more.
    let n : extent (head s) ≡ skip + size = ap extent e in
    let b = item-bounds s e in
    count_next s (omega arith) ∙ ap (λ (k : ℕ). suc (count (drop k s))) n ∙ ap suc more ∙ ap length (sym (items_item s e)))

-- the payloads of a slice's items are slices
abbrev pub Slices : List Item → Type 0
Slices [] = Unit {0}
Slices (i ∷ is) = Slice (payload_of i) × Slices is

pub payload_is : (l : Bool) (p : Bytes) → payload_of (item_of l p) ≡ p
payload_is true p = refl
payload_is false p = refl

pub slices_items : (s : Bytes) → Slice s → Slices (items_of s)
slices_items =
    items_ind (λ (s : Bytes). Slice s → Slices (items_of s)) (λ s e sl. subst Slices (sym (items_broken s e)) tt)
    (λ s l skip size e more sl.
    subst Slices (sym (items_item s e)) (subst Slice (sym (payload_is l (part s skip size))) (slice_part s skip size sl), more (slice_drop (skip + size) s sl)))
