-- `packet_write_ping::write_ping` meets its contract. Assumes nothing.
use Prim.Native.Nat.{ℕ, ◌+◌, ◌≤◌}
use mathlib.Core.Path.{◌≡◌, sym, ap, ◌∙◌}
use mathlib.Core.Bool.{true}
use mathlib.Core.List.{List, [], ◌∷◌, ◌++◌, append-nil}
use native.Mathlib.Omega.{arith}
use lib.ListN.{length}
use Rattle.std.specs.Prelude.{Option}
use Rattle.node.specs.Nodes.{is_address}
use Rattle.octets.specs.Octets.{Bytes}
use Rattle.rlp.specs.Encoding.{Item, encode, encodes, header}
use Rattle.rlp.proofs.Writing.{uint_size_small}
use Rattle.packet_model.specs.Items.{uint, endpoint, ping_items, enr_seq_items}
use Rattle.packet_model.specs.From.{is_sender_address}
use Rattle.packet_model.proofs.From.{address_sender}
use Rattle.packet_bodies.specs.Parts.{last_items}
use Rattle.lists.proofs.Laws.{and_left, and_right}
use Rattle.packet_bodies.proofs.Sizes.{total_size}
use Rattle.octets.proofs.Progress.{concat, room, step}
use Rattle.packet_bodies.specs.Writers.{can_ping, ping_body}
use Rattle.written.proofs.Answers.{refused}
use Rattle.packet_bodies.proofs.Bodies.{Begun, begin, end, too_short}
use Rattle.packet_write_ping.proofs.write_ping.Goals as goal

module _ (from to : Bytes) (ok : can_ping from to ≡ true) where
  -- both have one of the lengths that an endpoint's size is asked for
  from_ok : is_sender_address from ≡ true
  from_ok = and_left (is_sender_address from) (is_address to) ok

  to_ok : is_sender_address to ≡ true
  to_ok = address_sender to (and_right (is_sender_address from) (is_address to) ok)

module _ (from to : Bytes) (from_udp from_tcp to_udp expiration : ℕ) (seq : Option ℕ) where
  abbrev items : List Item
  items = ping_items 4 (endpoint from from_udp from_tcp) (endpoint to to_udp 0) expiration (enr_seq_items seq)

  -- what is written after the packet's start, piece by piece
  abbrev pieces : List Bytes
  pieces = encode (uint 4) ∷ encode (endpoint from from_udp from_tcp) ∷ encode (endpoint to to_udp 0) ∷ encodes (last_items expiration seq) ∷ []

  pieces_are : concat pieces ≡ encodes items
  pieces_are = ap (λ (x : Bytes). encode (uint 4) ++ (encode (endpoint from from_udp from_tcp) ++ (encode (endpoint to to_udp 0) ++ x))) (append-nil (encodes (last_items expiration seq)))

  size_is : {a b l : ℕ} → a ≡ length (encode (endpoint from from_udp from_tcp)) → b ≡ length (encode (endpoint to to_udp 0)) → l ≡ length (encodes (last_items expiration seq)) → 1 + a + b + l ≡ length (encodes items)
  size_is {a} {b} {l} is_a is_b is_l = omega (arith, total_size items, uint_size_small 4 (omega arith), is_a, is_b, total_size (last_items expiration seq), is_l)

  -- nothing is written yet
  begun : {size : ℕ} {buf : Bytes} → size ≡ length (encodes items) → 1 + length (header 0xc0 size) + size ≤ length buf → Begun 1 size pieces buf
  begun {size} {buf} is h = begin 1 items is pieces_are h

pub endpoint_size-a-requires : goal.endpoint_size-a-requires
endpoint_size-a-requires c = from_ok c.args.from.now c.args.to.now (sym c.can_ping.ensures ∙ c.if-not-can_ping.false)

pub endpoint_size-b-requires : goal.endpoint_size-b-requires
endpoint_size-b-requires c = to_ok c.args.from.now c.args.to.now (sym c.can_ping.ensures ∙ c.if-not-can_ping.false)

pub write_uint-at-requires : goal.write_uint-at-requires
write_uint-at-requires c = let a = c.args in
    let is = size_is a.from.now a.to.now a.from_udp a.from_tcp a.to_udp a.expiration a.enr_seq c.endpoint_size-a.ensures.0 c.endpoint_size-b.ensures.0 c.last_size.ensures.0 in
    let p₀ = begun a.from.now a.to.now a.from_udp a.from_tcp a.to_udp a.expiration a.enr_seq is (omega (arith, c.if-buf-body_size.false, c.body_size.ensures)) in
    let p₁ = step p₀ (c.put_start-at.ensures.next, c.put_start-at.ensures.bytes) in
    room p₁

pub put_endpoint-at-requires : goal.put_endpoint-at-requires
put_endpoint-at-requires c = let a = c.args in
    let ok = sym c.can_ping.ensures ∙ c.if-not-can_ping.false in
    let is = size_is a.from.now a.to.now a.from_udp a.from_tcp a.to_udp a.expiration a.enr_seq c.endpoint_size-a.ensures.0 c.endpoint_size-b.ensures.0 c.last_size.ensures.0 in
    let p₀ = begun a.from.now a.to.now a.from_udp a.from_tcp a.to_udp a.expiration a.enr_seq is (omega (arith, c.if-buf-body_size.false, c.body_size.ensures)) in
    let p₁ = step p₀ (c.put_start-at.ensures.next, c.put_start-at.ensures.bytes) in
    let p₂ = step p₁ (c.write_uint-at.ensures.next, c.write_uint-at.ensures.bytes) in
    (from_ok a.from.now a.to.now ok, room p₂)

pub put_endpoint-at-requires-2 : goal.put_endpoint-at-requires-2
put_endpoint-at-requires-2 c = let a = c.args in
    let ok = sym c.can_ping.ensures ∙ c.if-not-can_ping.false in
    let is = size_is a.from.now a.to.now a.from_udp a.from_tcp a.to_udp a.expiration a.enr_seq c.endpoint_size-a.ensures.0 c.endpoint_size-b.ensures.0 c.last_size.ensures.0 in
    let p₀ = begun a.from.now a.to.now a.from_udp a.from_tcp a.to_udp a.expiration a.enr_seq is (omega (arith, c.if-buf-body_size.false, c.body_size.ensures)) in
    let p₁ = step p₀ (c.put_start-at.ensures.next, c.put_start-at.ensures.bytes) in
    let p₂ = step p₁ (c.write_uint-at.ensures.next, c.write_uint-at.ensures.bytes) in
    let p₃ = step p₂ (c.put_endpoint-at.ensures.next, c.put_endpoint-at.ensures.bytes) in
    (to_ok a.from.now a.to.now ok, room p₃)

pub put_last-requires : goal.put_last-requires
put_last-requires c = let a = c.args in
    let is = size_is a.from.now a.to.now a.from_udp a.from_tcp a.to_udp a.expiration a.enr_seq c.endpoint_size-a.ensures.0 c.endpoint_size-b.ensures.0 c.last_size.ensures.0 in
    let p₀ = begun a.from.now a.to.now a.from_udp a.from_tcp a.to_udp a.expiration a.enr_seq is (omega (arith, c.if-buf-body_size.false, c.body_size.ensures)) in
    let p₁ = step p₀ (c.put_start-at.ensures.next, c.put_start-at.ensures.bytes) in
    let p₂ = step p₁ (c.write_uint-at.ensures.next, c.write_uint-at.ensures.bytes) in
    let p₃ = step p₂ (c.put_endpoint-at.ensures.next, c.put_endpoint-at.ensures.bytes) in
    let p₄ = step p₃ (c.put_endpoint-at-2.ensures.next, c.put_endpoint-at-2.ensures.bytes) in
    room p₄

pub returns : goal.returns
returns c = let a = c.args in
    let ok = sym c.can_ping.ensures ∙ c.if-not-can_ping.false in
    let is = size_is a.from.now a.to.now a.from_udp a.from_tcp a.to_udp a.expiration a.enr_seq c.endpoint_size-a.ensures.0 c.endpoint_size-b.ensures.0 c.last_size.ensures.0 in
    let p₀ = begun a.from.now a.to.now a.from_udp a.from_tcp a.to_udp a.expiration a.enr_seq is (omega (arith, c.if-buf-body_size.false, c.body_size.ensures)) in
    let p₁ = step p₀ (c.put_start-at.ensures.next, c.put_start-at.ensures.bytes) in
    let p₂ = step p₁ (c.write_uint-at.ensures.next, c.write_uint-at.ensures.bytes) in
    let p₃ = step p₂ (c.put_endpoint-at.ensures.next, c.put_endpoint-at.ensures.bytes) in
    let p₄ = step p₃ (c.put_endpoint-at-2.ensures.next, c.put_endpoint-at-2.ensures.bytes) in
    let p₅ = step p₄ (c.put_last.ensures.next, c.put_last.ensures.bytes) in
    let w = end 1 (items a.from.now a.to.now a.from_udp a.from_tcp a.to_udp a.expiration a.enr_seq) is (pieces_are a.from.now a.to.now a.from_udp a.from_tcp a.to_udp a.expiration a.enr_seq) ok p₅ in record { answer = w.0; bytes = w.1 }

pub returns-then-buf-body_size : goal.returns-then-buf-body_size
returns-then-buf-body_size c = let a = c.args in
    let ok = sym c.can_ping.ensures ∙ c.if-not-can_ping.false in
    let is = size_is a.from.now a.to.now a.from_udp a.from_tcp a.to_udp a.expiration a.enr_seq c.endpoint_size-a.ensures.0 c.endpoint_size-b.ensures.0 c.last_size.ensures.0 in
    let w = too_short 1 (items a.from.now a.to.now a.from_udp a.from_tcp a.to_udp a.expiration a.enr_seq) is ok (omega (arith, c.if-buf-body_size.true, c.body_size.ensures)) in record { answer = w.0; bytes = w.1 }

pub returns-then-not-can_ping : goal.returns-then-not-can_ping
returns-then-not-can_ping c = let a = c.args in
    let ok = can_ping a.from.now a.to.now in
    let w = refused ok (ping_body a.from.now a.from_udp a.from_tcp a.to.now a.to_udp a.expiration a.enr_seq) a.buf.now (sym c.can_ping.ensures ∙ c.if-not-can_ping.true) in record { answer = w.0; bytes = w.1 }
