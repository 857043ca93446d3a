-- `log_why::put_why` meets its contract. Assumes nothing.
use Rattle.text.specs.Decimals.{digits, decimal}
use Rattle.log_reason.specs.Row.{why_row}
use Rattle.log_reason.proofs.put_why.Goals as goal

pub returns-in-None : goal.returns-in-None
unfolding why_row decimal digits
returns-in-None c = record { len = rw c.in-None.is (c.put_alone.ensures.len); bytes = rw c.in-None.is (c.put_alone.ensures.bytes); room = c.put_alone.ensures.room }

pub returns-in-Some : goal.returns-in-Some
returns-in-Some c = record { len = rw c.in-Some.is (c.put_reason.ensures.len); bytes = rw c.in-Some.is (c.put_reason.ensures.bytes); room = c.put_reason.ensures.room }
