-- `packet_datagram::record_span` meets its contract. Assumes nothing.
use Rattle.packet_datagram.proofs.record_span.Goals as goal

pub returns-in-Ping : goal.returns-in-Ping
returns-in-Ping c = rw c.in-Ping.is

pub returns-in-Pong : goal.returns-in-Pong
returns-in-Pong c = rw c.in-Pong.is

pub returns-in-FindNode : goal.returns-in-FindNode
returns-in-FindNode c = rw c.in-FindNode.is

pub returns-in-Neighbors : goal.returns-in-Neighbors
returns-in-Neighbors c = rw c.in-Neighbors.is

pub returns-in-EnrRequest : goal.returns-in-EnrRequest
returns-in-EnrRequest c = rw c.in-EnrRequest.is
