-- What is read of the line lies in the case.
use Rattle.std.proofs.Common.{◌≤◌, length}
use Rattle.test_calls.proofs.feed.Given as goal

abbrev pub invariant-loop-byte : goal.invariant-loop-byte
invariant-loop-byte g l = l.current.line.n ≤ length l.case
