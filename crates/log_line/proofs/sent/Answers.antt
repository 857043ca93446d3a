-- `log_line::sent` meets its contract. Assumes nothing.
use Rattle.log_line.specs.Forms.{sent_line}
use Rattle.log_line.proofs.sent.Goals as goal

pub number64-requires : goal.number64-requires
number64-requires c = c.requires 1

pub number16-requires : goal.number16-requires
number16-requires c = c.requires 4

pub number16-requires-2 : goal.number16-requires-2
number16-requires-2 c = c.requires 5

pub returns : goal.returns
unfolding sent_line
returns c = rw (c.number64.ensures, c.number16.ensures, c.number16-2.ensures)
