-- `packet_write_pong::write_pong` meets its contract. Assumes nothing.
use Prim.Native.Nat.{ℕ, ◌+◌, ◌≤◌}
use mathlib.Core.Path.{◌≡◌, sym, ap, ◌∙◌}
use mathlib.Core.Bool.{true}
use mathlib.Core.List.{List, [], ◌∷◌, ◌++◌, append-nil}
use native.Mathlib.Omega.{arith}
use lib.ListN.{length}
use lib.Dec.{eqb}
use borrow.Author.Tests.{eqb-true}
use Rattle.std.specs.Prelude.{Option}
use Rattle.node.specs.Nodes.{is_address}
use Rattle.octets.specs.Octets.{Bytes}
use Rattle.rlp.specs.Encoding.{Item, encode, encodes, header, string}
use Rattle.packet_model.specs.Items.{endpoint, pong_items, enr_seq_items}
use Rattle.packet_model.specs.From.{is_sender_address}
use Rattle.packet_model.proofs.From.{address_sender}
use Rattle.packet_bodies.specs.Parts.{last_items}
use Rattle.lists.proofs.Laws.{and_left, and_right}
use Rattle.packet_bodies.proofs.Sizes.{total_size, string_short}
use Rattle.octets.proofs.Progress.{concat, room, step}
use Rattle.packet_bodies.specs.Writers.{can_pong, pong_body}
use Rattle.written.proofs.Answers.{refused}
use Rattle.packet_bodies.proofs.Bodies.{Begun, begin, end, too_short}
use Rattle.packet_write_pong.proofs.write_pong.Goals as goal

-- `to` has one of the lengths that the endpoint's size is asked for
sender : (to hash : Bytes) → can_pong to hash ≡ true → is_sender_address to ≡ true
sender to hash ok = address_sender to (and_left (is_address to) (eqb (length hash) 32) ok)

module _ (to hash : Bytes) (udp expiration : ℕ) (seq : Option ℕ) where
  abbrev items : List Item
  items = pong_items (endpoint to udp 0) hash expiration (enr_seq_items seq)

  -- what is written after the packet's start, piece by piece
  abbrev pieces : List Bytes
  pieces = encode (endpoint to udp 0) ∷ encode (string hash) ∷ encodes (last_items expiration seq) ∷ []

  pieces_are : concat pieces ≡ encodes items
  pieces_are = ap (λ (x : Bytes). encode (endpoint to udp 0) ++ (encode (string hash) ++ x)) (append-nil (encodes (last_items expiration seq)))

  size_is : can_pong to hash ≡ true → {a b : ℕ} → a ≡ length (encode (endpoint to udp 0)) → b ≡ length (encodes (last_items expiration seq)) → a + 33 + b ≡ length (encodes items)
  size_is ok {a} {b} is_a is_b =
      let hash_size = eqb-true (length hash) 32 (and_right (is_address to) (eqb (length hash) 32) ok) in
      omega (arith, hash_size, total_size items, is_a, string_short hash (λ o. omega arith) (omega arith), total_size (last_items expiration seq), is_b)

  -- nothing is written yet
  begun : {size : ℕ} {buf : Bytes} → size ≡ length (encodes items) → 1 + length (header 0xc0 size) + size ≤ length buf → Begun 2 size pieces buf
  begun {size} {buf} is h = begin 2 items is pieces_are h

pub endpoint_size-a-requires : goal.endpoint_size-a-requires
endpoint_size-a-requires c = sender c.args.to.now c.args.ping_hash.now (sym c.can_pong.ensures ∙ c.if-not-can_pong.false)

pub put_endpoint-at-requires : goal.put_endpoint-at-requires
put_endpoint-at-requires c = let a = c.args in
    let ok = sym c.can_pong.ensures ∙ c.if-not-can_pong.false in
    let is = size_is a.to.now a.ping_hash.now a.to_udp a.expiration a.enr_seq ok c.endpoint_size-a.ensures.0 c.last_size.ensures.0 in
    let p₀ = begun a.to.now a.ping_hash.now a.to_udp a.expiration a.enr_seq is (omega (arith, c.if-buf-body_size.false, c.body_size.ensures)) in
    let p₁ = step p₀ (c.put_start-at.ensures.next, c.put_start-at.ensures.bytes) in
    (sender a.to.now a.ping_hash.now ok, room p₁)

pub write_string-at-requires : goal.write_string-at-requires
write_string-at-requires c = let a = c.args in
    let ok = sym c.can_pong.ensures ∙ c.if-not-can_pong.false in
    let is = size_is a.to.now a.ping_hash.now a.to_udp a.expiration a.enr_seq ok c.endpoint_size-a.ensures.0 c.last_size.ensures.0 in
    let p₀ = begun a.to.now a.ping_hash.now a.to_udp a.expiration a.enr_seq is (omega (arith, c.if-buf-body_size.false, c.body_size.ensures)) in
    let p₁ = step p₀ (c.put_start-at.ensures.next, c.put_start-at.ensures.bytes) in
    let p₂ = step p₁ (c.put_endpoint-at.ensures.next, c.put_endpoint-at.ensures.bytes) in
    room p₂

pub put_last-requires : goal.put_last-requires
put_last-requires c = let a = c.args in
    let ok = sym c.can_pong.ensures ∙ c.if-not-can_pong.false in
    let is = size_is a.to.now a.ping_hash.now a.to_udp a.expiration a.enr_seq ok c.endpoint_size-a.ensures.0 c.last_size.ensures.0 in
    let p₀ = begun a.to.now a.ping_hash.now a.to_udp a.expiration a.enr_seq is (omega (arith, c.if-buf-body_size.false, c.body_size.ensures)) in
    let p₁ = step p₀ (c.put_start-at.ensures.next, c.put_start-at.ensures.bytes) in
    let p₂ = step p₁ (c.put_endpoint-at.ensures.next, c.put_endpoint-at.ensures.bytes) in
    let p₃ = step p₂ (c.write_string-at.ensures.next, c.write_string-at.ensures.bytes) in
    room p₃

pub returns : goal.returns
returns c = let a = c.args in
    let ok = sym c.can_pong.ensures ∙ c.if-not-can_pong.false in
    let is = size_is a.to.now a.ping_hash.now a.to_udp a.expiration a.enr_seq ok c.endpoint_size-a.ensures.0 c.last_size.ensures.0 in
    let p₀ = begun a.to.now a.ping_hash.now a.to_udp a.expiration a.enr_seq is (omega (arith, c.if-buf-body_size.false, c.body_size.ensures)) in
    let p₁ = step p₀ (c.put_start-at.ensures.next, c.put_start-at.ensures.bytes) in
    let p₂ = step p₁ (c.put_endpoint-at.ensures.next, c.put_endpoint-at.ensures.bytes) in
    let p₃ = step p₂ (c.write_string-at.ensures.next, c.write_string-at.ensures.bytes) in
    let p₄ = step p₃ (c.put_last.ensures.next, c.put_last.ensures.bytes) in
    let w = end 2 (items a.to.now a.ping_hash.now a.to_udp a.expiration a.enr_seq) is (pieces_are a.to.now a.ping_hash.now a.to_udp a.expiration a.enr_seq) ok p₄ in record { answer = w.0; bytes = w.1 }

pub returns-then-buf-body_size : goal.returns-then-buf-body_size
returns-then-buf-body_size c = let a = c.args in
    let ok = sym c.can_pong.ensures ∙ c.if-not-can_pong.false in
    let is = size_is a.to.now a.ping_hash.now a.to_udp a.expiration a.enr_seq ok c.endpoint_size-a.ensures.0 c.last_size.ensures.0 in
    let w = too_short 2 (items a.to.now a.ping_hash.now a.to_udp a.expiration a.enr_seq) is ok (omega (arith, c.if-buf-body_size.true, c.body_size.ensures)) in record { answer = w.0; bytes = w.1 }

pub returns-then-not-can_pong : goal.returns-then-not-can_pong
returns-then-not-can_pong c = let a = c.args in
    let ok = can_pong a.to.now a.ping_hash.now in
    let w = refused ok (pong_body a.to.now a.to_udp a.ping_hash.now a.expiration a.enr_seq) a.buf.now (sym c.can_pong.ensures ∙ c.if-not-can_pong.true) in record { answer = w.0; bytes = w.1 }
