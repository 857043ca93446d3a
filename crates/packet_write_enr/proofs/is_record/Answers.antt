-- `packet_write_enr::is_record` meets its contract. Assumes nothing.
use Prim.Native.Nat.{◌+◌}
use mathlib.Core.Path.{sym, ap, ◌∙◌}
use mathlib.Core.Bool.{Bool, ◌&&◌}
use native.Mathlib.Omega.{arith}
use lib.Dec.{eqb}
use lib.ListN.{length}
use Rattle.rlp.proofs.Reading.{item-bounds}
use Rattle.packet_bodies.proofs.Records.{record_by, record_long}
use Rattle.packet_write_enr.proofs.is_record.Goals as goal

pub returns-in_default : goal.returns-in_default
returns-in_default c = record_by c.args.«record».now c.if-record-le300.true (sym c.read_header.ensures ∙ c.in_default.is)

pub overflow_add-result : goal.overflow_add-result
overflow_add-result c = omega (arith, c.if-record-le300.true, item-bounds c.args.«record».now (sym c.read_header.ensures ∙ c.in-Some.is))

pub returns-then-item : goal.returns-then-item
returns-then-item c = let r = c.args.«record».now in
    sym (ap (λ (b : Bool). b && eqb (c.in-Some.item.skip + c.in-Some.item.size) (length r)) c.if-item.true) ∙ record_by r c.if-record-le300.true (sym c.read_header.ensures ∙ c.in-Some.is)

pub returns-else-item : goal.returns-else-item
returns-else-item c = let r = c.args.«record».now in
    sym (ap (λ (b : Bool). b && eqb (c.in-Some.item.skip + c.in-Some.item.size) (length r)) c.if-item.false) ∙ record_by r c.if-record-le300.true (sym c.read_header.ensures ∙ c.in-Some.is)

pub returns-else-record-le300 : goal.returns-else-record-le300
returns-else-record-le300 c = record_long c.args.«record».now c.if-record-le300.false
