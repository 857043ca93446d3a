-- `log_line::own` meets its contract. Assumes nothing.
use Rattle.log_line.specs.Forms.{own_line}
use Rattle.log_line.proofs.own.Goals as goal

pub number64-requires : goal.number64-requires
number64-requires c = c.requires 1

pub returns : goal.returns
unfolding own_line
returns c = rw c.number64.ensures
