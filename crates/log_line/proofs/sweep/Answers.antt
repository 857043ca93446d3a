-- `log_line::sweep` meets its contract. Assumes nothing.
use Rattle.log_line.specs.Forms.{sweep_line}
use Rattle.log_line.proofs.sweep.Goals as goal

pub number64-requires : goal.number64-requires
number64-requires c = c.requires 1

pub returns : goal.returns
unfolding sweep_line
returns c = rw c.number64.ensures
