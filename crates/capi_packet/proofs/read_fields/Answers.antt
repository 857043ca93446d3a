-- `capi_packet::read_fields` meets its contract. Assumes nothing.
use mathlib.Core.Path.{refl}
use Rattle.capi_packet.proofs.read_fields.Goals as goal

pub returns-in-Packet : goal.returns-in-Packet
returns-in-Packet c = rw (← c.packet_in.ensures, c.in-Packet.is) (refl, c.fields_of-fields.ensures)

pub returns-in-Refused : goal.returns-in-Refused
returns-in-Refused c = rw (← c.packet_in.ensures, c.in-Refused.is) (refl, refl)
