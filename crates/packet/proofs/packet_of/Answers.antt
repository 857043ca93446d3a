-- `packet::packet_of` meets its contract. Assumes nothing.
use mathlib.Core.Path.{ap}
use Rattle.packet.specs.declared.Packet.TheVariants as packet
use Rattle.packet.proofs.packet_of.Goals as goal

pub returns-in-Ping : goal.returns-in-Ping
returns-in-Ping c = rw c.in-Ping.is (ap packet.Ping c.ping_fields.ensures)

pub returns-in-Pong : goal.returns-in-Pong
returns-in-Pong c = rw c.in-Pong.is (ap packet.Pong c.pong_fields.ensures)

pub returns-in-FindNode : goal.returns-in-FindNode
returns-in-FindNode c = rw c.in-FindNode.is (ap packet.FindNode c.find_node_fields.ensures)

pub returns-in-Neighbors : goal.returns-in-Neighbors
returns-in-Neighbors c = rw c.in-Neighbors.is (ap packet.Neighbors c.neighbors_fields.ensures)

pub returns-in-EnrRequest : goal.returns-in-EnrRequest
returns-in-EnrRequest c = rw c.in-EnrRequest.is (ap packet.EnrRequest c.enr_request_fields.ensures)

pub returns-in-EnrResponse : goal.returns-in-EnrResponse
returns-in-EnrResponse c = rw c.in-EnrResponse.is (ap packet.EnrResponse c.enr_response_fields.ensures)
