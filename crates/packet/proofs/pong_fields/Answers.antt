-- `packet::pong_fields` meets its contract. Assumes nothing.
use Rattle.packet.specs.Packets.{pong_of}
use Rattle.packet.proofs.pong_fields.Goals as goal

pub returns : goal.returns
unfolding pong_of
returns c = rw (← c.recipient_at-to.ensures, ← c.payload_at-ping_hash.ensures, ← c.uint_item.ensures, ← c.enr_seq_item.ensures)
