-- `packet_write_enr::write_enr_response` meets its contract. Assumes nothing.
use Prim.Native.Nat.{ℕ, ◌+◌, ◌≤◌}
use mathlib.Core.Path.{◌≡◌, refl, sym, ap, ◌∙◌}
use mathlib.Core.Bool.{true}
use mathlib.Core.List.{List, [], ◌∷◌, ◌++◌}
use native.Mathlib.Omega.{arith}
use lib.Dec.{eqb}
use borrow.Author.Tests.{eqb-true}
use lib.ListN.{length}
use Rattle.octets.specs.Octets.{Bytes}
use Rattle.rlp.specs.Encoding.{Item, encode, encodes, header, string, list}
use Rattle.packet_model.specs.Items.{enr_response_items}
use Rattle.lists.proofs.Laws.{and_left, and_right}
use Rattle.packet_bodies.proofs.Sizes.{total_size, string_short}
use Rattle.octets.proofs.Progress.{concat, room, step}
use Rattle.packet_bodies.specs.Writers.{is_record, content, can_enr_response, enr_response_body}
use Rattle.written.proofs.Answers.{refused}
use Rattle.packet_bodies.proofs.Bodies.{Begun, begin, end, too_short}
use Rattle.packet_bodies.proofs.Records.{record_bound, content_is}
use Rattle.packet_write_enr.proofs.write_enr_response.Goals as goal

module _ (hash r : Bytes) where
  record_ok : can_enr_response hash r ≡ true → is_record r ≡ true
  record_ok ok = and_right (eqb (length hash) 32) (is_record r) ok

  abbrev items : List Item
  items = enr_response_items hash (content r) []

  -- what is written after the packet's start, piece by piece: the record as it is handed over
  abbrev pieces : List Bytes
  pieces = encode (string hash) ∷ r ∷ []

  module _ (is : encode (list (content r)) ≡ r) where
    pieces_are : concat pieces ≡ encodes items
    pieces_are = ap (λ (x : Bytes). encode (string hash) ++ (x ++ [])) (sym is)

    size_is : can_enr_response hash r ≡ true → 33 + length r ≡ length (encodes items)
    size_is ok =
        let hash_size = eqb-true (length hash) 32 (and_left (eqb (length hash) 32) (is_record r) ok) in
        omega (arith, hash_size, total_size items, string_short hash (λ o. omega arith) (omega arith), ap length is)

    -- nothing is written yet
    begun : {size : ℕ} {buf : Bytes} → size ≡ length (encodes items) → 1 + length (header 0xc0 size) + size ≤ length buf → Begun 6 size pieces buf
    begun {size} {buf} is h = begin 6 items is pieces_are h

pub body_size-requires : goal.body_size-requires
body_size-requires c = let a = c.args in
    omega (arith, record_bound a.«record».now (record_ok a.request_hash.now a.«record».now (sym c.can_enr_response.ensures ∙ c.if-not-can_enr_response.false)))

pub write_string-at-requires : goal.write_string-at-requires
write_string-at-requires c = let a = c.args in
    let ok = sym c.can_enr_response.ensures ∙ c.if-not-can_enr_response.false in
    let r = record_ok a.request_hash.now a.«record».now ok in
    let as_items = content_is a.«record».now (record { bytes = λ i. (c.shared_slice_known-2-1.given i).fits; size = omega (arith, record_bound a.«record».now r) }) r in
    let is = size_is a.request_hash.now a.«record».now as_items ok in
    let p₀ = begun a.request_hash.now a.«record».now as_items is (omega (arith, c.if-buf-body_size.false, c.body_size.ensures)) in
    let p₁ = step p₀ (c.put_start-at.ensures.next, c.put_start-at.ensures.bytes) in
    room p₁

pub put_bytes-requires : goal.put_bytes-requires
put_bytes-requires c = let a = c.args in
    let ok = sym c.can_enr_response.ensures ∙ c.if-not-can_enr_response.false in
    let r = record_ok a.request_hash.now a.«record».now ok in
    let as_items = content_is a.«record».now (record { bytes = λ i. (c.shared_slice_known-2-1.given i).fits; size = omega (arith, record_bound a.«record».now r) }) r in
    let is = size_is a.request_hash.now a.«record».now as_items ok in
    let p₀ = begun a.request_hash.now a.«record».now as_items is (omega (arith, c.if-buf-body_size.false, c.body_size.ensures)) in
    let p₁ = step p₀ (c.put_start-at.ensures.next, c.put_start-at.ensures.bytes) in
    let p₂ = step p₁ (c.write_string-at.ensures.next, c.write_string-at.ensures.bytes) in
    room p₂

pub overflow_add-result : goal.overflow_add-result
overflow_add-result c = let a = c.args in
    let ok = sym c.can_enr_response.ensures ∙ c.if-not-can_enr_response.false in
    let r = record_ok a.request_hash.now a.«record».now ok in
    let as_items = content_is a.«record».now (record { bytes = λ i. (c.shared_slice_known-2-1.given i).fits; size = omega (arith, record_bound a.«record».now r) }) r in
    let is = size_is a.request_hash.now a.«record».now as_items ok in
    let p₀ = begun a.request_hash.now a.«record».now as_items is (omega (arith, c.if-buf-body_size.false, c.body_size.ensures)) in
    let p₁ = step p₀ (c.put_start-at.ensures.next, c.put_start-at.ensures.bytes) in
    let p₂ = step p₁ (c.write_string-at.ensures.next, c.write_string-at.ensures.bytes) in
    omega (arith, room p₂)

pub returns : goal.returns
returns c = let a = c.args in
    let ok = sym c.can_enr_response.ensures ∙ c.if-not-can_enr_response.false in
    let r = record_ok a.request_hash.now a.«record».now ok in
    let as_items = content_is a.«record».now (record { bytes = λ i. (c.shared_slice_known-2-1.given i).fits; size = omega (arith, record_bound a.«record».now r) }) r in
    let is = size_is a.request_hash.now a.«record».now as_items ok in
    let p₀ = begun a.request_hash.now a.«record».now as_items is (omega (arith, c.if-buf-body_size.false, c.body_size.ensures)) in
    let p₁ = step p₀ (c.put_start-at.ensures.next, c.put_start-at.ensures.bytes) in
    let p₂ = step p₁ (c.write_string-at.ensures.next, c.write_string-at.ensures.bytes) in
    let p₃ = step p₂ (refl, c.put_bytes.ensures) in
    let w = end 6 (items a.request_hash.now a.«record».now) is (pieces_are a.request_hash.now a.«record».now as_items) ok p₃ in record { answer = w.0; bytes = w.1 }

pub returns-then-buf-body_size : goal.returns-then-buf-body_size
returns-then-buf-body_size c = let a = c.args in
    let ok = sym c.can_enr_response.ensures ∙ c.if-not-can_enr_response.false in
    let r = record_ok a.request_hash.now a.«record».now ok in
    let as_items = content_is a.«record».now (record { bytes = λ i. (c.shared_slice_known-2-1.given i).fits; size = omega (arith, record_bound a.«record».now r) }) r in
    let is = size_is a.request_hash.now a.«record».now as_items ok in
    let w = too_short 6 (items a.request_hash.now a.«record».now) is ok (omega (arith, c.if-buf-body_size.true, c.body_size.ensures)) in record { answer = w.0; bytes = w.1 }

pub returns-then-not-can_enr_response : goal.returns-then-not-can_enr_response
returns-then-not-can_enr_response c = let a = c.args in
    let ok = can_enr_response a.request_hash.now a.«record».now in
    let w = refused ok (enr_response_body a.request_hash.now a.«record».now) a.buf.now (sym c.can_enr_response.ensures ∙ c.if-not-can_enr_response.true) in record { answer = w.0; bytes = w.1 }
