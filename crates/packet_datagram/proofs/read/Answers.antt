-- `packet_datagram::read` meets its contract. Assumes nothing.
use mathlib.Core.Path.{sym, ◌∙◌}
use Rattle.packet_datagram.proofs.read.Goals as goal

pub returns-then-is_expired : goal.returns-then-is_expired
returns-then-is_expired c = let read = c in
    rw (← read.packet_in.ensures, read.in-Packet.is, sym c.is_expired.ensures ∙ c.if-is_expired.true)

pub returns-else-is_expired : goal.returns-else-is_expired
returns-else-is_expired c = let read = c in
    rw (← read.packet_in.ensures, read.in-Packet.is, sym c.is_expired.ensures ∙ c.if-is_expired.false)

pub returns-in-Refused : goal.returns-in-Refused
returns-in-Refused c = rw (← c.packet_in.ensures, c.in-Refused.is)
