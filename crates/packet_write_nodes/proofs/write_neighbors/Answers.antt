-- `packet_write_nodes::write_neighbors` meets its contract. Assumes nothing.
use Prim.Native.Nat.{ℕ, ◌+◌, ◌≤◌}
use mathlib.Core.Path.{◌≡◌, sym, ap, ◌∙◌}
use mathlib.Core.List.{List, [], ◌∷◌, ◌++◌, append_assoc}
use native.Mathlib.Omega.{arith}
use lib.ListN.{length, length-append}
use Rattle.packet_bodies.specs.declared.NodeList.{NodeList}
use Rattle.octets.specs.Octets.{Bytes}
use Rattle.rlp.specs.Encoding.{Item, header, encode, encodes, list}
use Rattle.packet_model.specs.Items.{uint, neighbors_items}
use Rattle.packet_bodies.specs.Parts.{writable_nodes, node_items}
use Rattle.packet_bodies.proofs.Sizes.{total_size, framed, uint-width}
use Rattle.octets.proofs.Progress.{concat, room, step}
use Rattle.packet_bodies.specs.Writers.{neighbors_body}
use Rattle.written.proofs.Answers.{refused}
use Rattle.packet_bodies.proofs.Bodies.{Begun, begin, end, too_short}
use borrow.Author.Rules.{rules}
use Rattle.packet_write_nodes.proofs.write_neighbors.Goals as goal

pub nodes_size-inner-requires : goal.nodes_size-inner-requires
nodes_size-inner-requires c = sym c.nodes_writable.ensures ∙ c.if-not-nodes_writable.false

pub overflow_add-size-2 : goal.overflow_add-size-2
overflow_add-size-2 c = omega (arith, c.header_size.ensures.1, c.nodes_size-inner.ensures.1, c.uint_size.ensures, uint-width 8 c.args.expiration (omega arith) (search rules))

pub body_size-requires : goal.body_size-requires
body_size-requires c = omega (arith, c.header_size.ensures.1, c.nodes_size-inner.ensures.1, c.uint_size.ensures, uint-width 8 c.args.expiration (omega arith) (search rules))

module _ (nodes : NodeList) (expiration inner : ℕ) where
  abbrev items : List Item
  items = neighbors_items (node_items nodes) expiration []

  -- what is written after the packet's start, piece by piece; the nodes have `inner` bytes
  abbrev pieces : List Bytes
  pieces = header 0xc0 inner ∷ encodes (node_items nodes) ∷ encode (uint expiration) ∷ []

  module _ (is_inner : inner ≡ length (encodes (node_items nodes))) where
    framed_nodes : header 0xc0 inner ++ encodes (node_items nodes) ≡ encode (list (encodes (node_items nodes)))
    framed_nodes = framed inner (encodes (node_items nodes)) is_inner

    pieces_are : concat pieces ≡ encodes items
    pieces_are =
        let rest : Bytes = encode (uint expiration) ++ [] in
        sym (append_assoc (header 0xc0 inner) (encodes (node_items nodes)) rest) ∙ ap (λ (x : Bytes). x ++ rest) framed_nodes

    size_is : {h u : ℕ} → h ≡ length (header 0xc0 inner) → u ≡ length (encode (uint expiration)) → h + inner + u ≡ length (encodes items)
    size_is {h} {u} is_h is_u = omega (arith, total_size items, ap length framed_nodes, length-append (header 0xc0 inner) (encodes (node_items nodes)), is_inner, is_h, is_u)

    -- nothing is written yet
    begun : {size : ℕ} {buf : Bytes} → size ≡ length (encodes items) → 1 + length (header 0xc0 size) + size ≤ length buf → Begun 4 size pieces buf
    begun {size} {buf} is h = begin 4 items is pieces_are h

pub write_header-at-requires : goal.write_header-at-requires
write_header-at-requires c = let a = c.args in
    let inner = c.nodes_size-inner.ensures.0 in
    let is = size_is a.nodes a.expiration c.nodes_size-inner.result inner c.header_size.ensures.0 c.uint_size.ensures in
    let p₀ = begun a.nodes a.expiration c.nodes_size-inner.result inner is (omega (arith, c.if-buf-body_size.false, c.body_size.ensures)) in
    let p₁ = step p₀ (c.put_start-at.ensures.next, c.put_start-at.ensures.bytes) in
    (omega arith, room p₁)

pub put_nodes-at-requires : goal.put_nodes-at-requires
put_nodes-at-requires c = let a = c.args in
    let ok = sym c.nodes_writable.ensures ∙ c.if-not-nodes_writable.false in
    let inner = c.nodes_size-inner.ensures.0 in
    let is = size_is a.nodes a.expiration c.nodes_size-inner.result inner c.header_size.ensures.0 c.uint_size.ensures in
    let p₀ = begun a.nodes a.expiration c.nodes_size-inner.result inner is (omega (arith, c.if-buf-body_size.false, c.body_size.ensures)) in
    let p₁ = step p₀ (c.put_start-at.ensures.next, c.put_start-at.ensures.bytes) in
    let p₂ = step p₁ (c.write_header-at.ensures.next, c.write_header-at.ensures.bytes) in
    (ok, room p₂)

pub write_uint-requires : goal.write_uint-requires
write_uint-requires c = let a = c.args in
    let inner = c.nodes_size-inner.ensures.0 in
    let is = size_is a.nodes a.expiration c.nodes_size-inner.result inner c.header_size.ensures.0 c.uint_size.ensures in
    let p₀ = begun a.nodes a.expiration c.nodes_size-inner.result inner is (omega (arith, c.if-buf-body_size.false, c.body_size.ensures)) in
    let p₁ = step p₀ (c.put_start-at.ensures.next, c.put_start-at.ensures.bytes) in
    let p₂ = step p₁ (c.write_header-at.ensures.next, c.write_header-at.ensures.bytes) in
    let p₃ = step p₂ (c.put_nodes-at.ensures.next, c.put_nodes-at.ensures.bytes) in
    room p₃

pub returns : goal.returns
returns c = let a = c.args in
    let ok = sym c.nodes_writable.ensures ∙ c.if-not-nodes_writable.false in
    let inner = c.nodes_size-inner.ensures.0 in
    let is = size_is a.nodes a.expiration c.nodes_size-inner.result inner c.header_size.ensures.0 c.uint_size.ensures in
    let p₀ = begun a.nodes a.expiration c.nodes_size-inner.result inner is (omega (arith, c.if-buf-body_size.false, c.body_size.ensures)) in
    let p₁ = step p₀ (c.put_start-at.ensures.next, c.put_start-at.ensures.bytes) in
    let p₂ = step p₁ (c.write_header-at.ensures.next, c.write_header-at.ensures.bytes) in
    let p₃ = step p₂ (c.put_nodes-at.ensures.next, c.put_nodes-at.ensures.bytes) in
    let p₄ = step p₃ (c.write_uint.ensures.next, c.write_uint.ensures.bytes) in
    let w = end 4 (items a.nodes a.expiration c.nodes_size-inner.result) is (pieces_are a.nodes a.expiration c.nodes_size-inner.result inner) ok p₄ in record { answer = w.0; bytes = w.1 }

pub returns-then-buf-body_size : goal.returns-then-buf-body_size
returns-then-buf-body_size c = let a = c.args in
    let ok = sym c.nodes_writable.ensures ∙ c.if-not-nodes_writable.false in
    let inner = c.nodes_size-inner.ensures.0 in
    let is = size_is a.nodes a.expiration c.nodes_size-inner.result inner c.header_size.ensures.0 c.uint_size.ensures in
    let w = too_short 4 (items a.nodes a.expiration c.nodes_size-inner.result) is ok (omega (arith, c.if-buf-body_size.true, c.body_size.ensures)) in record { answer = w.0; bytes = w.1 }

pub returns-then-not-nodes_writable : goal.returns-then-not-nodes_writable
returns-then-not-nodes_writable c = let a = c.args in
    let w = refused (writable_nodes a.nodes) (neighbors_body a.nodes a.expiration) a.buf.now (sym c.nodes_writable.ensures ∙ c.if-not-nodes_writable.true) in record { answer = w.0; bytes = w.1 }
