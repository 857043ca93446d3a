-- A record that can be written is the encoding of the list that it holds.
use Prim.Native.Nat.{ℕ, ◌+◌, ◌≤◌, ◌<◌, ◌^◌}
use Rattle.std.specs.Prelude.{Option, Some, None}
use mathlib.Core.Path.{◌≡◌, refl, sym, ap, ◌∙◌}
use mathlib.Core.Bool.{true, false, false≢true}
use mathlib.Core.List.{[], ◌++◌, append-nil}
use native.Mathlib.Omega.{arith}
use lib.Dec.{leb, eqb}
use borrow.Author.Tests.{le-leb, lt-leb, leb-true, eqb-true, eq-eqb}
use lib.ListN.{length, drop, drop_of_length-le}
use Rattle.octets.specs.Octets.{Bytes, Slice, part}
use Rattle.octets.proofs.Laws.{part_rest}
use Rattle.rlp.specs.Encoding.{encode, list, prefix}
use Rattle.rlp.specs.Reading.{head}
use Rattle.rlp.specs.declared.Item.{Item}
use Rattle.rlp.proofs.Encoding.{read_item, encode-length, read_sound}
use Rattle.lists.proofs.Laws.{and_left, and_right}
use Rattle.packet_bodies.specs.Writers.{is_list_of, is_record, skip_of, content}
use Rattle.packet_bodies.specs.Records.{RecordExactly}

-- by the header
pub record_by : (r : Bytes) {h : Option Item} → length r ≤ 300 → head r ≡ h → is_list_of h (length r) ≡ is_record r
record_by r few e = rw (le-leb (length r) 300 few, e)

pub record_long : (r : Bytes) → 300 < length r → false ≡ is_record r
record_long r h = rw (lt-leb (length r) 300 h)

pub record_bound : (r : Bytes) → is_record r ≡ true → length r ≤ 300
record_bound r ok = leb-true (length r) 300 (and_left (leb (length r) 300) (is_list_of (head r) (length r)) ok)

list_is : (r : Bytes) (h : Option Item) → Slice r → head r ≡ h → is_list_of h (length r) ≡ true → encode (list (drop (skip_of h) r)) ≡ r
list_is r None b e ok = absurd (false≢true ok)
list_is r (Some i) b e ok =
    let skip : ℕ = i.skip in
    let size : ℕ = i.size in
    let all : skip + size ≡ length r = eqb-true (skip + size) (length r) (and_right i.list (eqb (skip + size) (length r)) ok) in
    let rest : part r skip size ≡ drop skip r = ap (part r skip) (omega arith) ∙ part_rest r skip in
    let none : drop (skip + size) r ≡ [] = drop_of_length-le r {i = skip + size} (omega arith) in
    sym (append-nil (encode (list (drop skip r))))
    ∙ sym (ap (λ (x : Bytes). encode (list (drop skip r)) ++ x) none)
    ∙ sym (ap (λ (x : Bytes). encode (list x) ++ drop (skip + size) r) rest)
    ∙ rw (and_left i.list (eqb (skip + size) (length r)) ok) at (read_sound r b e)

pub content_is : (r : Bytes) → Slice r → is_record r ≡ true → encode (list (content r)) ≡ r
content_is r b ok = list_is r (head r) b refl (and_right (leb (length r) 300) (is_list_of (head r) (length r)) ok)

encoding_record : (r p : Bytes) → r ≡ encode (list p) → length r ≤ 300 → is_record r ≡ true
encoding_record r p e few =
    let n = encode-length (list p) in
    let small : length p < 2 ^ 64 = omega (arith, ap length e) in
    let h = ap head (e ∙ sym (append-nil (encode (list p)))) ∙ read_item (list p) [] small in
    sym (record_by r few h) ∙ eq-eqb (length (prefix (list p)) + length p) (length r) (sym (ap length e ∙ n))

pub record_exactly : RecordExactly
record_exactly r sl = (
  (λ ok. ((content r, sym (content_is r sl ok)), record_bound r ok)),
  (λ h. encoding_record r h.0.0 h.0.1 h.1),
)
