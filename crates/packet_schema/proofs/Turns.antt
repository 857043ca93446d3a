-- Turns of the loops that go through the nodes of a list and the fields of a packet, and packet data.
use Prim.Native.Nat.{ℕ, ◌+◌, ◌-◌, ◌≤◌, ◌<◌}
use Rattle.std.specs.Prelude.{Some, None}
use mathlib.Core.Path.{◌≡◌, refl, sym, ap, ◌∙◌}
use mathlib.Core.Bool.{Bool, true, false}
use mathlib.Core.List.{List}
use native.Mathlib.Nat.{add-sub_cancel_left}
use native.Mathlib.Omega.{arith}
use borrow.Author.Tests.{eq-eqb, ne_eqb, leb-true, leb-false}
use lib.Dec.{eqb, leb}
use lib.ListN.{length, get_or, take, drop, drop_of_length-le}
use Rattle.octets.specs.Octets.{Bytes, part}
use Rattle.rlp.specs.Encoding.{Item}
use Rattle.rlp.specs.Reading.{item, head}
use Rattle.rlp.proofs.Reading.{item-bounds}
use Rattle.rlp.proofs.Encoding.{head_none}
use Rattle.rlp.specs.declared.Item as read
use Rattle.packet_kinds.specs.Kinds.{worst, good_if, tuple, node}
use Rattle.packet_kinds.specs.declared.Kind.{Kind}
use Rattle.packet_kinds.specs.declared.Verdict.{Verdict}
use Rattle.packet_kinds.specs.declared.Verdict.TheVariants.{Good, Wrong, Broken}
use Rattle.packet_kinds.proofs.ItemTurns.{kinds-end, kinds-next, left, taken, after, left_next, left-none}
use Rattle.packet_schema.specs.Schema.{each_node, field, fields}

-- the verdicts of three, in either grouping
pub worst_assoc : (a b c : Verdict) → worst (worst a b) c ≡ worst a (worst b c)
worst_assoc Good b c = refl
worst_assoc Broken b c = refl
worst_assoc Wrong Good c = refl
worst_assoc Wrong Broken c = refl
worst_assoc Wrong Wrong Good = refl
worst_assoc Wrong Wrong Broken = refl
worst_assoc Wrong Wrong Wrong = refl

pub worst_good : (a : Verdict) → a ≡ worst a Good
worst_good Good = refl
worst_good Broken = refl
worst_good Wrong = refl

-- an item at the front of s lies within s
pub item_fits : (s : Bytes) {i : read.Item} → head s ≡ Some i → i.skip + i.size ≤ length s
item_fits s e = (item-bounds s e).1

-- the payload of an item at the front of s, as a part of s
pub payload : (s : Bytes) (skip size : ℕ) → take (skip + size - skip) (drop skip s) ≡ part s skip size
unfolding part
payload s skip size = ap (λ (k : ℕ). take k (drop skip s)) (add-sub_cancel_left skip size)

-- nodes: v is the verdict so far
module _ (s : Bytes) (at : ℕ) (v : Verdict) where
  abbrev pub nodes-todo : Verdict
  nodes-todo = worst v (each_node (left s at))

  pub nodes-none : head (drop at s) ≡ None → v ≡ nodes-todo
  nodes-none e = worst_good v ∙ ap (λ (is : List Item). worst v (each_node is)) (sym (left-none s at e))

  pub nodes-end : length s ≤ at → v ≡ nodes-todo
  nodes-end h = nodes-none (ap head (drop_of_length-le s h) ∙ head_none)

  pub nodes-item : {list : Bool} {skip size : ℕ} (e : head (drop at s) ≡ item list skip size) {one w : Verdict} → one ≡ tuple node (taken s at e) → w ≡ worst v one
      → worst w (each_node (after s at e)) ≡ nodes-todo
  nodes-item e {one} {w} o q =
      ap (λ (x : Verdict). worst x (each_node (after s at e))) (q ∙ ap (worst v) o)
      ∙ worst_assoc v (tuple node (taken s at e)) (each_node (after s at e))
      ∙ ap (λ (is : List Item). worst v (each_node is)) (sym (left_next s at e))

-- a test of the code and the schema's test for the first `required` items
required_by : (required i : ℕ) → leb required i ≡ eqb (required - i) 0
required_by required i = go (leb required i) refl
  where
    go : (b : Bool) → leb required i ≡ b → leb required i ≡ eqb (required - i) 0
    go true e = e ∙ sym (eq-eqb (required - i) 0 (omega (arith, leb-true required i e)))
    go false e = e ∙ sym (ne_eqb (required - i) 0 (λ (z : required - i ≡ 0). omega (arith, leb-false required i e)))

-- the fields of a packet: v is the verdict so far
module _ (kinds : List Kind) (i required : ℕ) (s : Bytes) (at : ℕ) (v : Verdict) where
  abbrev pub todo : Verdict
  todo = worst v (fields (required - i) (drop i kinds) (left s at))

  pub fields-end : length kinds ≤ i → v ≡ todo
  fields-end h = rw (kinds-end kinds i h) (worst_good v)

  module _ (more : i < length kinds) (d : Kind) where
    pub fields-none : head (drop at s) ≡ None → worst v (good_if (leb required i)) ≡ todo
    fields-none e = rw (kinds-next kinds i more d, left-none s at e, required_by required i)

    pub fields-item : {list : Bool} {skip size : ℕ} (e : head (drop at s) ≡ item list skip size) {one w : Verdict}
        → one ≡ field (get_or kinds i d) (taken s at e) → w ≡ worst v one
        → worst w (fields (required - (i + 1)) (drop (i + 1) kinds) (after s at e)) ≡ todo
    fields-item e {one} {w} o q =
        let r : required - i - 1 ≡ required - (i + 1) = omega arith in
        rw (kinds-next kinds i more d, left_next s at e, ← o, r, q) (worst_assoc v one _)
