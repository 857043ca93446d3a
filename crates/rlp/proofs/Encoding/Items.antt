-- A payload is whole exactly if it is the encodings of items, and then it has that many, each where its offset says. Assumes nothing.
use Prim.Native.Nat.{ℕ, zero, suc, ◌+◌, ◌^◌, ◌≤◌, ◌<◌}
use Rattle.std.specs.Prelude.{Option, Some, None}
use mathlib.Core.Path.{◌≡◌, refl, sym, ap, subst, ◌∙◌}
use mathlib.Core.Bool.{true, false≢true}
use mathlib.Core.List.{List, [], ◌∷◌, ◌++◌}
use native.Mathlib.Omega.{arith}
use lib.ListN.{length, get_or, drop, length-append, length-drop, drop_of_length-le}
use lib.Seq.{drop-drop, drop-cons}
use Rattle.octets.specs.Octets.{Bytes, Slice, part}
use Rattle.octets.proofs.Laws.{slice_drop}
use Rattle.rlp.specs.Encoding.{encode, encodes, item_of, is_list, payload_of, prefix, Small}
use Rattle.rlp.specs.Encoding as rlp
use Rattle.rlp.specs.Reading.{item, head, extent, whole, count, offset}
use Rattle.rlp.specs.declared.Item.{Item}
use Rattle.rlp.specs.Claims.{WholeEncodes, WholeIsEncodes}
use Rattle.rlp.proofs.Reading.{item-bounds, whole_next, whole_broken, whole-nil, count_next, count-nil, offset_broken}
use Rattle.rlp.proofs.Encoding.Reads.{read_item, read_payload, read_rest, encode-length}
use Rattle.rlp.proofs.Encoding.Sound.{head_none, read_sound}

-- ---- the first item of a payload, and the others

module _ (i : rlp.Item) (is : List rlp.Item) (small : Small (i ∷ is)) where
  pub small-first : length (payload_of i) < 2 ^ 64
  small-first = omega (arith, length-append (encode i) (encodes is), encode-length i)

  pub small-rest : Small is
  small-rest = omega (arith, length-append (encode i) (encodes is))

  pub read_first : head (encodes (i ∷ is)) ≡ item (is_list i) (length (prefix i)) (length (payload_of i))
  read_first = read_item i (encodes is) small-first

  first-extent : extent (head (encodes (i ∷ is))) ≡ length (prefix i) + length (payload_of i)
  first-extent = ap extent read_first

  first_some : 0 < extent (head (encodes (i ∷ is)))
  first_some = omega (arith, first-extent, (item-bounds (encodes (i ∷ is)) read_first).0)

  first_rest : drop (extent (head (encodes (i ∷ is)))) (encodes (i ∷ is)) ≡ encodes is
  first_rest = ap (λ (n : ℕ). drop n (encodes (i ∷ is))) first-extent ∙ read_rest i (encodes is)

-- ---- what is written reads back

pub whole-encodes : WholeEncodes
whole-encodes [] h = whole-nil
whole-encodes (i ∷ is) h =
    whole_next (encodes (i ∷ is)) (first_some i is h) ∙ ap whole (first_rest i is h) ∙ whole-encodes is (small-rest i is h)

pub count-encodes : (is : List rlp.Item) → Small is → count (encodes is) ≡ length is
count-encodes [] h = count-nil
count-encodes (i ∷ is) h =
    count_next (encodes (i ∷ is)) (first_some i is h)
    ∙ ap (λ (s : Bytes). suc (count s)) (first_rest i is h)
    ∙ ap suc (count-encodes is (small-rest i is h))

-- from the offset of item n on stand the items from n on
pub offset-encodes : (n : ℕ) (is : List rlp.Item) → Small is → drop (offset n (encodes is)) (encodes is) ≡ encodes (drop n is)
offset-encodes zero is h = refl
offset-encodes (suc n) [] h = ap (λ (k : ℕ). drop k []) (offset_broken [] (suc n) head_none)
offset-encodes (suc n) (i ∷ is) h =
    let s : Bytes = encodes (i ∷ is) in
    sym (drop-drop (offset n (drop (extent (head s)) s)) (extent (head s)) s)
    ∙ ap (λ (t : Bytes). drop (offset n t) t) (first_rest i is h)
    ∙ offset-encodes n is (small-rest i is h)

-- an item stands at the front of s: its header is read, its payload is the part that the header says
pub record ReadsAs (s : Bytes) (i : rlp.Item) : Type 0 where
  pub header : head s ≡ item (is_list i) (length (prefix i)) (length (payload_of i))
  pub payload : part s (length (prefix i)) (length (payload_of i)) ≡ payload_of i

-- item n of a payload is read at its offset
pub nth_item : (n : ℕ) (is : List rlp.Item) (d : rlp.Item) → Small is → n < length is → ReadsAs (drop (offset n (encodes is)) (encodes is)) (get_or is n d)
nth_item n is d h l =
    subst (λ (s : Bytes). ReadsAs s i) (sym at) record { header = read_item i rest fits; payload = read_payload i rest }
  where
    i : rlp.Item
    i = get_or is n d

    rest : Bytes
    rest = encodes (drop (suc n) is)

    at : drop (offset n (encodes is)) (encodes is) ≡ encode i ++ rest
    at = offset-encodes n is h ∙ ap encodes (drop-cons is n d l)

    fits : length (payload_of i) < 2 ^ 64
    fits =
        omega (arith, ap length at, length-append (encode i) rest, encode-length i, length-drop (offset n (encodes is)) (encodes is))

-- ---- what is read was written

abbrev Encoded : Bytes → Type 0
Encoded s = (is : List rlp.Item) × (encodes is ≡ s)

-- the first item, and those of what follows it
split_one : (s : Bytes) → Slice s → whole s ≡ true → ((k : ℕ) → 0 < k → whole (drop k s) ≡ true → Encoded (drop k s)) → Encoded s
split_one [] sl w more = ([], refl)
split_one (b ∷ t) sl w more = go (head (b ∷ t)) refl
  where
    go : (h : Option Item) → head (b ∷ t) ≡ h → Encoded (b ∷ t)
    go (Some i) e =
        let n : extent (head (b ∷ t)) ≡ i.skip + i.size = ap extent e in
        let p : 0 < i.skip + i.size = (item-bounds (b ∷ t) e).0 in
        let r = more (i.skip + i.size) p (ap (λ (k : ℕ). whole (drop k (b ∷ t))) (sym n) ∙ sym (whole_next (b ∷ t) (omega arith)) ∙ w) in
        let x : rlp.Item = item_of i.list (part (b ∷ t) i.skip i.size) in
        (x ∷ r.0, ap (λ (y : Bytes). encode x ++ y) r.1 ∙ read_sound (b ∷ t) sl e)
    go None e = absurd (false≢true (sym (whole_broken (b ∷ t) (omega arith) e) ∙ w))

split_up : (fuel : ℕ) (s : Bytes) → length s ≤ fuel → Slice s → whole s ≡ true → Encoded s
split_up zero s l sl w = ([], sym (drop_of_length-le s l))
split_up (suc fuel) s l sl w = split_one s sl w (λ k p. split_up fuel (drop k s) (omega (arith, length-drop k s)) (slice_drop k s sl))

pub whole_is_encodes : WholeIsEncodes
whole_is_encodes s sl w = split_up (length s) s (omega arith) sl w

-- the items of a slice are small
pub small_items : (is : List rlp.Item) (s : Bytes) → Slice s → encodes is ≡ s → Small is
small_items is s sl e = omega (arith, sl.size, ap length e)
