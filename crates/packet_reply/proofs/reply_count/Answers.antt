-- `packet_reply::reply_count` meets its contract. Assumes nothing.
use Rattle.packet_reply.proofs.Replies.{count_none, count_some}
use Rattle.packet_reply.proofs.reply_count.Goals as goal

pub returns-then-nodes-eq0 : goal.returns-then-nodes-eq0
returns-then-nodes-eq0 c = count_none c.if-nodes-eq0.true

pub returns : goal.returns
returns c = count_some c.if-nodes-eq0.false
