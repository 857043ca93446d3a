-- What is read of the line lies in the case.
use Rattle.std.proofs.Common.{◌≤◌, length}
use Rattle.test_calls.proofs.run_all.Given as goal

abbrev pub invariant-loop : goal.invariant-loop
invariant-loop g l = l.state.line.n ≤ length l.case
