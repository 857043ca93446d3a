-- `call_datagram::after_reading` meets its contract. Assumes nothing.
use mathlib.Core.Path.{refl}
use Rattle.call_judge.proofs.after_reading.Goals as goal

pub returns-in-Packet : goal.returns-in-Packet
returns-in-Packet c = rw c.in-Packet.is c.kept_slot.ensures

pub returns-in-Refused : goal.returns-in-Refused
returns-in-Refused c = rw c.in-Refused.is refl
