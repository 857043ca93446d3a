-- `packet_bodies::put_last` meets its contract. Assumes nothing.
use mathlib.Core.Path.{ap}
use mathlib.Core.List.{List}
use native.Mathlib.Omega.{arith}
use lib.ListN.{length}
use Rattle.rlp.specs.Encoding.{Item}
use Rattle.packet_model.specs.Items.{enr_seq_items}
use Rattle.std.specs.Prelude.{ℕ, Option}
use Rattle.packet_bodies.specs.Parts.{last_items}
use Rattle.octets.proofs.Progress.{Progress, start, room, step, renamed, finish}
use Rattle.packet_bodies.proofs.Pieces.{pieces, concat_pieces}
use Rattle.packet_bodies.proofs.put_last.Goals as goal

pub write_uint-a-requires : goal.write_uint-a-requires
write_uint-a-requires c =
    let items : List Item = last_items c.args.expiration c.args.enr_seq in
    let begun : let a = c.args in Progress a.buf.now a.at (pieces items) (pieces items) a.buf.now a.at = start c.args.buf.now c.args.at (pieces items) (omega (arith, c.requires, ap length (concat_pieces items))) in
    room begun

pub write_uint-requires : goal.write_uint-requires
write_uint-requires c =
    let items : List Item = last_items c.args.expiration c.args.enr_seq in
    let begun : let a = c.args in Progress a.buf.now a.at (pieces items) (pieces items) a.buf.now a.at = start c.args.buf.now c.args.at (pieces items) (omega (arith, c.requires, ap length (concat_pieces items))) in
    let s = c in
    room (renamed (ap (λ (e : Option ℕ). pieces (enr_seq_items e)) c.in-Some.is) (step begun (c.write_uint-a.ensures.next, c.write_uint-a.ensures.bytes)))

pub returns-in-None : goal.returns-in-None
returns-in-None c =
    let items : List Item = last_items c.args.expiration c.args.enr_seq in
    let begun : let a = c.args in Progress a.buf.now a.at (pieces items) (pieces items) a.buf.now a.at = start c.args.buf.now c.args.at (pieces items) (omega (arith, c.requires, ap length (concat_pieces items))) in
    let s = c in record {
      next = (finish (renamed (ap (λ (e : Option ℕ). pieces (enr_seq_items e)) c.in-None.is) (step begun (c.write_uint-a.ensures.next, c.write_uint-a.ensures.bytes)))
          (concat_pieces items)).0;
      bytes = (finish (renamed (ap (λ (e : Option ℕ). pieces (enr_seq_items e)) c.in-None.is) (step begun (c.write_uint-a.ensures.next, c.write_uint-a.ensures.bytes)))
          (concat_pieces items)).1;
    }

pub returns-in-Some : goal.returns-in-Some
returns-in-Some c =
    let items : List Item = last_items c.args.expiration c.args.enr_seq in
    let begun : let a = c.args in Progress a.buf.now a.at (pieces items) (pieces items) a.buf.now a.at = start c.args.buf.now c.args.at (pieces items) (omega (arith, c.requires, ap length (concat_pieces items))) in
    let s = c in record {
      next = (finish
          (step
          (renamed (ap (λ (e : Option ℕ). pieces (enr_seq_items e)) c.in-Some.is)
          (step begun (c.write_uint-a.ensures.next, c.write_uint-a.ensures.bytes)))
          (c.write_uint.ensures.next, c.write_uint.ensures.bytes))
          (concat_pieces items)).0;
      bytes = (finish
          (step
          (renamed (ap (λ (e : Option ℕ). pieces (enr_seq_items e)) c.in-Some.is)
          (step begun (c.write_uint-a.ensures.next, c.write_uint-a.ensures.bytes)))
          (c.write_uint.ensures.next, c.write_uint.ensures.bytes))
          (concat_pieces items)).1;
    }
