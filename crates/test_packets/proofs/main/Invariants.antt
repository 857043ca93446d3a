-- What is read of the line lies in the case.
use Rattle.std.proofs.Common.{◌≤◌, length}
use Rattle.test_packets.proofs.main.Given as goal

abbrev pub invariant-loop : goal.invariant-loop
invariant-loop l = l.line.n ≤ length l.case
