-- `packet::neighbors_fields` meets its contract. Assumes nothing.
use Rattle.packet.specs.Packets.{neighbors_of}
use Rattle.packet.proofs.neighbors_fields.Goals as goal

pub returns : goal.returns
unfolding neighbors_of
returns c = rw (← c.payload_at-nodes.ensures, ← c.uint_item.ensures)
