-- `packet_datagram::span_in` meets its contract. Assumes nothing.
use Rattle.packet_datagram.proofs.span_in.Goals as goal

pub returns-in-Refused : goal.returns-in-Refused
returns-in-Refused c = rw c.in-Refused.is
