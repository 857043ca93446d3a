-- `log_line::rx` meets its contract. Assumes nothing.
use Rattle.log_line.specs.Forms.{rx_line}
use Rattle.log_line.proofs.rx.Goals as goal

pub number64-requires : goal.number64-requires
number64-requires c = c.requires 1

pub number64-requires-2 : goal.number64-requires-2
number64-requires-2 c = c.requires 2

pub number16-requires : goal.number16-requires
number16-requires c = c.requires 4

pub signer-requires : goal.signer-requires
signer-requires c = c.requires 5

pub returns : goal.returns
unfolding rx_line
returns c = rw (c.number64.ensures, c.number64-2.ensures, c.number16.ensures, c.signer.ensures)
