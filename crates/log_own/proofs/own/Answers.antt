-- `log_own::own` meets its contract. Assumes nothing.
use Rattle.log_own.proofs.OwnLine.{own_written}
use Rattle.log_own.proofs.own.Goals as goal

pub returns : goal.returns
returns c = own_written c.take_own-made.ensures (c.put_number-len.ensures.len, (c.put_number-len.ensures.bytes, c.put_number-len.ensures.size))
