-- `packet_reply::reply_part` meets its contract. Assumes nothing.
use native.Mathlib.Omega.{arith}
use Rattle.packet_reply.proofs.Replies.{part_of}
use Rattle.packet_reply.proofs.reply_part.Goals as goal

pub returns-then-nodes-k : goal.returns-then-nodes-k
returns-then-nodes-k c = part_of _ _ (omega arith) (omega arith)

pub returns-then-left-lt12 : goal.returns-then-left-lt12
returns-then-left-lt12 c = part_of _ _ (omega arith) (omega arith)

pub returns : goal.returns
returns c = part_of _ _ (omega arith) (omega arith)
