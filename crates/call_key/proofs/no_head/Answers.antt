-- `call_key::no_head` meets its contract. Assumes nothing.
use Rattle.call_key.proofs.no_head.Goals as goal

pub returns : goal.returns
returns c = cc
