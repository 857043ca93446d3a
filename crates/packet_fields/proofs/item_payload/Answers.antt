-- `packet_fields::item_payload` meets its contract. Assumes nothing.
use Rattle.rlp.proofs.Reading.{head_at}
use Rattle.packet_fields.proofs.Spans.{span-is}
use Rattle.packet_fields.proofs.item_payload.Goals as goal

pub returns-in_default : goal.returns-in_default
returns-in_default c = let s = c.args.s.now in
    span-is c.args.n s c.item_offset-at.ensures (head_at s c.item_offset-at.result c.read_header.ensures c.in_default.is)

pub returns : goal.returns
returns c = let s = c.args.s.now in
    span-is c.args.n s c.item_offset-at.ensures (head_at s c.item_offset-at.result c.read_header.ensures c.in-Some.is)
