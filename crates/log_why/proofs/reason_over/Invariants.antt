use Prim.Native.Nat.{◌+◌, ◌-◌}
use mathlib.Core.Path.{◌≡◌}
use lib.ListN.{length}
use Rattle.log_why.proofs.Whole.{Followed}
use Rattle.log_why.proofs.reason_over.Given as goal

abbrev pub invariant-loop-at : goal.invariant-loop-at
invariant-loop-at l = (46304 ≡ length l.memory) × Followed l.log l.key l.memory l.tracked l.at

abbrev pub decreases-loop-at : goal.decreases-loop-at
decreases-loop-at l = length l.log + 1 - l.at
