-- `packet::ping_fields` meets its contract. Assumes nothing.
use Rattle.packet.specs.Packets.{ping_of}
use Rattle.packet.proofs.ping_fields.Goals as goal

pub returns : goal.returns
unfolding ping_of
returns c = rw (← c.sender_at-from.ensures, ← c.recipient_at-to.ensures, ← c.uint_item.ensures, ← c.uint_item-2.ensures, ← c.enr_seq_item.ensures)
