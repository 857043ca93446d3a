-- Data is accepted exactly if it begins with the encoding of items that encode values of the schema's kinds.
use Prim.Native.Nat.{ℕ, ◌+◌, ◌<◌, ◌^◌}
use Rattle.std.specs.Prelude.{Option, Some, None}
use mathlib.Core.Path.{◌≡◌, refl, sym, ap, ◌∙◌}
use mathlib.Core.Bool.{Bool, true, false}
use mathlib.Core.List.{List, ◌++◌}
use native.Mathlib.Omega.{arith}
use lib.ListN.{length, drop, length-append}
use Rattle.octets.specs.Octets.{Bytes, Slice, part}
use Rattle.octets.proofs.Laws.{slice_part}
use Rattle.rlp.specs.Encoding.{Item, list, encode, encodes, Small}
use Rattle.rlp.specs.Reading.{head, whole}
use Rattle.rlp.proofs.Encoding.{read_item, read_payload, read_sound, whole-encodes, encode-length}
use Rattle.rlp.specs.declared.Item as read
use Rattle.packet_model.specs.Items.{data_of}
use Rattle.packet_kinds.specs.Payload.{items_of}
use Rattle.packet_schema.specs.Schema.{fields, verdict}
use Rattle.packet_schema.specs.Shapes.{Begins, Accepted}
use Rattle.packet_kinds.specs.declared.Kind.{Kind}
use Rattle.packet_kinds.specs.declared.Verdict.{Verdict}
use Rattle.packet_kinds.specs.declared.Verdict.TheVariants.{Good, Broken}
use Rattle.packet_kinds.proofs.Payload.{items_encodes, encodes_items, slices_items}
use Rattle.packet_schema.proofs.Shapes.{AllLimited, fields_shapes, shapes_fields}

-- the items of data that fits memory are small
pub small_data : (d : Bytes) (is : List Item) → length d < 2 ^ 64 → Begins d is → Small is
small_data d is short b =
    omega (arith, ap length b.begins, length-append (data_of is) b.rest, encode-length (list (encodes is)))

-- what the reader makes of data that begins with the encoding of items is what the schema says of these items
pub verdict_data : (required : ℕ) (kinds : List Kind) (d : Bytes) (is : List Item) → Small is → Begins d is → verdict required kinds d ≡ fields required kinds is
verdict_data required kinds d is small b =
    ap (verdict required kinds) b.begins
    ∙ rw (read_item (list (encodes is)) b.rest small, read_payload (list (encodes is)) b.rest, whole-encodes is small, items_encodes is small)

never : {v : Verdict} → Broken ≡ v → v ≡ Good → ⊥
never p q = let z : ◌≡◌ {A = ℕ} 0 1 = cc in omega arith

pub good_accepted : (required : ℕ) (kinds : List Kind) (d : Bytes) → Slice d → verdict required kinds d ≡ Good → Accepted required kinds d
good_accepted required kinds d sl good = go (head d) refl
  where
    listed : (i : read.Item) → head d ≡ Some i → i.list ≡ true → (w : Bool) → whole (part d i.skip i.size) ≡ w → Accepted required kinds d
    listed i e l true w =
        let p : Bytes = part d i.skip i.size in
        let sp : Slice p = slice_part d i.skip i.size sl in
        let q : encodes (items_of p) ≡ p = encodes_items p sp w in
        let v : verdict required kinds d ≡ fields required kinds (items_of p) = rw (e, l, w) in
        let r : encode (list p) ++ drop (i.skip + i.size) d ≡ d = rw l at (read_sound d sl e) in
        record {
          items = items_of p;
          begins = record { rest = drop (i.skip + i.size) d; begins = sym (ap (λ (x : Bytes). encode (list x) ++ drop (i.skip + i.size) d) q ∙ r) };
          shapes = fields_shapes required kinds (items_of p) (slices_items p sp) (sym v ∙ good);
        }
    listed i e l false w = absurd (never (rw (e, l, w)) good)

    either : (i : read.Item) → head d ≡ Some i → (l : Bool) → i.list ≡ l → Accepted required kinds d
    either i e true l = listed i e l (whole (part d i.skip i.size)) refl
    either i e false l = absurd (never (rw (e, l)) good)

    go : (h : Option read.Item) → head d ≡ h → Accepted required kinds d
    go (Some i) e = either i e i.list refl
    go None e = absurd (never (rw e) good)

pub accepted_good : (required : ℕ) (kinds : List Kind) (d : Bytes) → Slice d → AllLimited kinds → Accepted required kinds d → verdict required kinds d ≡ Good
accepted_good required kinds d sl limits a =
    let small : Small a.items = small_data d a.items (omega (arith, sl.size)) a.begins in
    verdict_data required kinds d a.items small a.begins ∙ shapes_fields required kinds a.items limits small a.shapes
