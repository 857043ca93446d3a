-- `packet::enr_request_fields` meets its contract. Assumes nothing.
use Rattle.packet.specs.Packets.{enr_request_of}
use Rattle.packet.proofs.enr_request_fields.Goals as goal

pub returns : goal.returns
unfolding enr_request_of
returns c = rw (← c.uint_item.ensures)
