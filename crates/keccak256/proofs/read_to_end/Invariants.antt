-- The buffer keeps its size, and each turn reads at least one byte more.
use Rattle.std.proofs.Common.{length, ◌-◌, ◌≡◌}
use Rattle.keccak256.proofs.read_to_end.Given as goal

abbrev pub invariant-loop-n : goal.invariant-loop-n
invariant-loop-n g l = length l.buf ≡ length l.initial.buf

abbrev pub decreases-loop-n : goal.decreases-loop-n
decreases-loop-n g l = length l.buf - l.n
