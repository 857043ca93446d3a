-- `call_datagram::on_packet` meets its contract. Assumes nothing.
use Rattle.call_packet.proofs.on_packet.Goals as goal

pub returns-in-Ping : goal.returns-in-Ping
returns-in-Ping c = λ e. rw c.in-Ping.is c.on_ping.ensures

pub returns-in-Pong : goal.returns-in-Pong
returns-in-Pong c = λ e. rw c.in-Pong.is c.on_pong.ensures

pub returns-in-FindNode : goal.returns-in-FindNode
returns-in-FindNode c = λ e. rw c.in-FindNode.is c.on_other.ensures

pub returns-in-Neighbors : goal.returns-in-Neighbors
returns-in-Neighbors c = λ e. rw c.in-Neighbors.is c.on_other-in-Neighbors.ensures

pub returns-in-EnrRequest : goal.returns-in-EnrRequest
returns-in-EnrRequest c = λ e. rw c.in-EnrRequest.is c.on_other-in-EnrRequest.ensures

pub returns-in-EnrResponse : goal.returns-in-EnrResponse
returns-in-EnrResponse c = λ e. rw c.in-EnrResponse.is c.on_other-in-EnrResponse.ensures
