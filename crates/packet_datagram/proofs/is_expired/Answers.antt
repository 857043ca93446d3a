-- `packet_datagram::is_expired` meets its contract. Assumes nothing.
use Rattle.packet_datagram.proofs.is_expired.Goals as goal

pub returns-in-Ping : goal.returns-in-Ping
returns-in-Ping c = rw c.in-Ping.is c.expired.ensures

pub returns-in-Pong : goal.returns-in-Pong
returns-in-Pong c = rw c.in-Pong.is c.expired-in-Pong.ensures

pub returns-in-FindNode : goal.returns-in-FindNode
returns-in-FindNode c = rw c.in-FindNode.is c.expired-in-FindNode.ensures

pub returns-in-Neighbors : goal.returns-in-Neighbors
returns-in-Neighbors c = rw c.in-Neighbors.is c.expired-in-Neighbors.ensures

pub returns-in-EnrRequest : goal.returns-in-EnrRequest
returns-in-EnrRequest c = rw c.in-EnrRequest.is c.expired-in-EnrRequest.ensures
