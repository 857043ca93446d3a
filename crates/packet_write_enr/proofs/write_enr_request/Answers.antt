-- `packet_write_enr::write_enr_request` meets its contract. Assumes nothing.
use mathlib.Core.Path.{◌≡◌, refl}
use mathlib.Core.List.{List, []}
use native.Mathlib.Omega.{arith}
use lib.ListN.{length}
use Rattle.rlp.specs.Encoding.{Item, encodes}
use Rattle.packet_model.specs.Items.{enr_request_items}
use Rattle.packet_bodies.proofs.Sizes.{total_size, uint-width}
use Rattle.octets.proofs.Progress.{room, step}
use Rattle.packet_bodies.proofs.Pieces.{pieces, concat_pieces}
use Rattle.packet_bodies.proofs.Bodies.{Begun, begin, end, too_short}
use borrow.Author.Rules.{rules}
use Rattle.packet_write_enr.proofs.write_enr_request.Goals as goal

pub body_size-requires : goal.body_size-requires
body_size-requires c = omega (arith, c.uint_size-size.ensures, uint-width 8 c.args.expiration (omega arith) (search rules))

pub write_uint-requires : goal.write_uint-requires
write_uint-requires c =
    let items : List Item = enr_request_items c.args.expiration [] in
    let size_is : c.uint_size-size.result ≡ length (encodes items) = omega (arith, total_size items, c.uint_size-size.ensures) in
    let begun : Begun 5 c.uint_size-size.result (pieces items) c.args.buf.now = begin 5 items size_is (concat_pieces items) (omega (arith, c.if-buf-body_size.false, c.body_size.ensures)) in
    room (step begun (c.put_start-at.ensures.next, c.put_start-at.ensures.bytes))

pub returns : goal.returns
returns c =
    let items : List Item = enr_request_items c.args.expiration [] in
    let size_is : c.uint_size-size.result ≡ length (encodes items) = omega (arith, total_size items, c.uint_size-size.ensures) in
    let begun : Begun 5 c.uint_size-size.result (pieces items) c.args.buf.now = begin 5 items size_is (concat_pieces items) (omega (arith, c.if-buf-body_size.false, c.body_size.ensures)) in
    record { answer = (end 5 items size_is (concat_pieces items) refl (step (step begun (c.put_start-at.ensures.next, c.put_start-at.ensures.bytes)) (c.write_uint.ensures.next, c.write_uint.ensures.bytes))).0; bytes = (end 5 items size_is (concat_pieces items) refl (step (step begun (c.put_start-at.ensures.next, c.put_start-at.ensures.bytes)) (c.write_uint.ensures.next, c.write_uint.ensures.bytes))).1 }

pub returns-then-buf-body_size : goal.returns-then-buf-body_size
returns-then-buf-body_size c =
    let items : List Item = enr_request_items c.args.expiration [] in
    let size_is : c.uint_size-size.result ≡ length (encodes items) = omega (arith, total_size items, c.uint_size-size.ensures) in
    record { answer = (too_short 5 items size_is refl (omega (arith, c.if-buf-body_size.true, c.body_size.ensures))).0; bytes = (too_short 5 items size_is refl (omega (arith, c.if-buf-body_size.true, c.body_size.ensures))).1 }
