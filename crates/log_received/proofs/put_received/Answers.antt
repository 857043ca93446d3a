-- `log_received::put_received` meets its contract. Assumes nothing.
use Rattle.log_received.specs.AnswerLine.{received_row}
use Rattle.log_received.proofs.put_received.Goals as goal

pub returns-in-Refused : goal.returns-in-Refused
unfolding received_row
returns-in-Refused c = record { len = rw c.in-Refused.is (c.put_number.ensures.len); bytes = rw c.in-Refused.is (c.put_number.ensures.bytes); size = c.put_number.ensures.size }

pub returns-in-Ping : goal.returns-in-Ping
unfolding received_row
returns-in-Ping c = record { len = rw c.in-Ping.is (c.put_ping.ensures.len); bytes = rw c.in-Ping.is (c.put_ping.ensures.bytes); size = c.put_ping.ensures.size }

pub returns-in-Pong : goal.returns-in-Pong
unfolding received_row
returns-in-Pong c = record { len = rw c.in-Pong.is (c.put_pong.ensures.len); bytes = rw c.in-Pong.is (c.put_pong.ensures.bytes); size = c.put_pong.ensures.size }

pub returns-in-FindNode : goal.returns-in-FindNode
unfolding received_row
returns-in-FindNode c = record { len = rw c.in-FindNode.is (c.put_word_row.ensures.len); bytes = rw c.in-FindNode.is (c.put_word_row.ensures.bytes); size = c.put_word_row.ensures.size }

pub returns-in-Neighbors : goal.returns-in-Neighbors
unfolding received_row
returns-in-Neighbors c = record { len = rw c.in-Neighbors.is (c.put_word_row-in-Neighbors.ensures.len); bytes = rw c.in-Neighbors.is (c.put_word_row-in-Neighbors.ensures.bytes); size = c.put_word_row-in-Neighbors.ensures.size }

pub returns-in-EnrRequest : goal.returns-in-EnrRequest
unfolding received_row
returns-in-EnrRequest c = record { len = rw c.in-EnrRequest.is (c.put_word_row-in-EnrRequest.ensures.len); bytes = rw c.in-EnrRequest.is (c.put_word_row-in-EnrRequest.ensures.bytes); size = c.put_word_row-in-EnrRequest.ensures.size }

pub returns-in-EnrResponse : goal.returns-in-EnrResponse
unfolding received_row
returns-in-EnrResponse c = record { len = rw c.in-EnrResponse.is (c.put_word_row-in-EnrResponse.ensures.len); bytes = rw c.in-EnrResponse.is (c.put_word_row-in-EnrResponse.ensures.bytes); size = c.put_word_row-in-EnrResponse.ensures.size }
