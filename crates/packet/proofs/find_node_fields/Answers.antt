-- `packet::find_node_fields` meets its contract. Assumes nothing.
use Rattle.packet.specs.Packets.{find_node_of}
use Rattle.packet.proofs.find_node_fields.Goals as goal

pub returns : goal.returns
unfolding find_node_of
returns c = rw (← c.payload_at-target.ensures, ← c.uint_item.ensures)
