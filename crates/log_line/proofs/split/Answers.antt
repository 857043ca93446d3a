-- `log_line::split` meets its contract. The invariant: the fields found, and those from `start` on, are the line's. Assumes nothing.
use native.Mathlib.Omega.{arith}
use Rattle.log_line.specs.Fields.{fields}
use Rattle.log_line.proofs.Spans.{collect_all}
use Rattle.log_line.proofs.split.Goals as goal

pub loop-i-init : goal.loop-i-init
unfolding fields
loop-i-init c = (omega arith, (omega arith, collect_all (fields c.args.line.now)))
