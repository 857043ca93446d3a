-- `log_state::Replay::size` meets its contract. Assumes nothing.
use Rattle.log_state.proofs.Memory.{size_none, size_some}
use native.Mathlib.Omega.{arith}
use Rattle.log_state.proofs.Replay.size.Goals as goal

pub returns-then-count-eq0 : goal.returns-then-count-eq0
returns-then-count-eq0 c = record { size = size_none c.args.self.count c.if-count-eq0.true; most = omega arith }

pub returns : goal.returns
returns c = record { size = size_some c.args.self.count c.if-count-eq0.false; most = omega arith }
