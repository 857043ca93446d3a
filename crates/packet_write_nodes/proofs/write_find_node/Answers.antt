-- `packet_write_nodes::write_find_node` meets its contract. Assumes nothing.
use Prim.Native.Nat.{◌+◌}
use mathlib.Core.Path.{◌≡◌}
use mathlib.Core.List.{List, []}
use native.Mathlib.Omega.{arith}
use borrow.Author.Tests.{eq-eqb, ne_eqb}
use lib.ListN.{length}
use Rattle.rlp.specs.Encoding.{Item, encodes}
use Rattle.packet_model.specs.Items.{find_node_items}
use Rattle.packet_bodies.proofs.Sizes.{total_size, string_long, uint-width}
use Rattle.octets.proofs.Progress.{room, step}
use Rattle.packet_bodies.proofs.Pieces.{pieces, concat_pieces}
use Rattle.packet_bodies.specs.Writers.{can_find_node, find_node_body}
use Rattle.written.proofs.Answers.{refused}
use Rattle.packet_bodies.proofs.Bodies.{Begun, begin, end, too_short}
use borrow.Author.Rules.{rules}
use Rattle.packet_write_nodes.proofs.write_find_node.Goals as goal

pub overflow_add-size : goal.overflow_add-size
overflow_add-size c = omega (arith, c.uint_size-size.ensures, uint-width 8 c.args.expiration (omega arith) (search rules))

pub body_size-requires : goal.body_size-requires
body_size-requires c = omega (arith, c.uint_size-size.ensures, uint-width 8 c.args.expiration (omega arith) (search rules))

pub write_string-at-requires : goal.write_string-at-requires
write_string-at-requires c =
    let items : List Item = find_node_items c.args.target.now c.args.expiration [] in
    let size_is : 66 + c.uint_size-size.result ≡ length (encodes items) = omega (arith, total_size items, string_long c.args.target.now (omega arith) (omega arith), c.uint_size-size.ensures) in
    let begun : Begun 3 (66 + c.uint_size-size.result) (pieces items) c.args.buf.now = begin 3 items size_is (concat_pieces items) (omega (arith, c.if-buf-body_size.false, c.body_size.ensures)) in
    room (step begun (c.put_start-at.ensures.next, c.put_start-at.ensures.bytes))

pub write_uint-requires : goal.write_uint-requires
write_uint-requires c =
    let items : List Item = find_node_items c.args.target.now c.args.expiration [] in
    let size_is : 66 + c.uint_size-size.result ≡ length (encodes items) = omega (arith, total_size items, string_long c.args.target.now (omega arith) (omega arith), c.uint_size-size.ensures) in
    let begun : Begun 3 (66 + c.uint_size-size.result) (pieces items) c.args.buf.now = begin 3 items size_is (concat_pieces items) (omega (arith, c.if-buf-body_size.false, c.body_size.ensures)) in
    room (step (step begun (c.put_start-at.ensures.next, c.put_start-at.ensures.bytes)) (c.write_string-at.ensures.next, c.write_string-at.ensures.bytes))

pub returns : goal.returns
returns c =
    let items : List Item = find_node_items c.args.target.now c.args.expiration [] in
    let size_is : 66 + c.uint_size-size.result ≡ length (encodes items) = omega (arith, total_size items, string_long c.args.target.now (omega arith) (omega arith), c.uint_size-size.ensures) in
    let begun : Begun 3 (66 + c.uint_size-size.result) (pieces items) c.args.buf.now = begin 3 items size_is (concat_pieces items) (omega (arith, c.if-buf-body_size.false, c.body_size.ensures)) in
    record {
      answer = (end 3 items size_is (concat_pieces items) (eq-eqb _ 64 c.if-target-ne64.false)
          (step (step (step begun (c.put_start-at.ensures.next, c.put_start-at.ensures.bytes)) (c.write_string-at.ensures.next, c.write_string-at.ensures.bytes)) (c.write_uint.ensures.next, c.write_uint.ensures.bytes))).0;
      bytes = (end 3 items size_is (concat_pieces items) (eq-eqb _ 64 c.if-target-ne64.false)
          (step (step (step begun (c.put_start-at.ensures.next, c.put_start-at.ensures.bytes)) (c.write_string-at.ensures.next, c.write_string-at.ensures.bytes)) (c.write_uint.ensures.next, c.write_uint.ensures.bytes))).1;
    }

pub returns-then-buf-body_size : goal.returns-then-buf-body_size
returns-then-buf-body_size c =
    let items : List Item = find_node_items c.args.target.now c.args.expiration [] in
    let size_is : 66 + c.uint_size-size.result ≡ length (encodes items) = omega (arith, total_size items, string_long c.args.target.now (omega arith) (omega arith), c.uint_size-size.ensures) in
    record { answer = (too_short 3 items size_is (eq-eqb _ 64 c.if-target-ne64.false) (omega (arith, c.if-buf-body_size.true, c.body_size.ensures))).0; bytes = (too_short 3 items size_is (eq-eqb _ 64 c.if-target-ne64.false) (omega (arith, c.if-buf-body_size.true, c.body_size.ensures))).1 }

pub returns-then-target-ne64 : goal.returns-then-target-ne64
returns-then-target-ne64 c = let a = c.args in record { answer = (refused (can_find_node a.target.now) (find_node_body a.target.now a.expiration) a.buf.now (ne_eqb _ 64 c.if-target-ne64.true)).0; bytes = (refused (can_find_node a.target.now) (find_node_body a.target.now a.expiration) a.buf.now (ne_eqb _ 64 c.if-target-ne64.true)).1 }
