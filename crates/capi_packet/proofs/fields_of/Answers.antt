-- `capi_packet::fields_of` meets its contract. Assumes nothing.
use Rattle.capi_packet.proofs.fields_of.Goals as goal

pub returns-in-Ping : goal.returns-in-Ping
returns-in-Ping c = rw c.in-Ping.is c.flat_ping.ensures

pub returns-in-Pong : goal.returns-in-Pong
returns-in-Pong c = rw c.in-Pong.is c.flat_pong.ensures

pub returns-in-FindNode : goal.returns-in-FindNode
returns-in-FindNode c = rw c.in-FindNode.is c.flat_find_node.ensures

pub returns-in-Neighbors : goal.returns-in-Neighbors
returns-in-Neighbors c = rw c.in-Neighbors.is c.flat_neighbors.ensures

pub returns-in-EnrRequest : goal.returns-in-EnrRequest
returns-in-EnrRequest c = rw c.in-EnrRequest.is c.flat_enr_request.ensures

pub returns-in-EnrResponse : goal.returns-in-EnrResponse
returns-in-EnrResponse c = rw c.in-EnrResponse.is c.flat_enr_response.ensures
