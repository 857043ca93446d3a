-- `call_key::head_entry` meets its contract. Assumes nothing.
use Rattle.call_key.proofs.head_entry.Goals as goal

pub returns : goal.returns
returns c = cc
