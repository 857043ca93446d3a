-- `call_key::not_found` meets its contract. Assumes nothing.
use Rattle.call_key.proofs.not_found.Goals as goal

pub returns : goal.returns
returns c = cc
