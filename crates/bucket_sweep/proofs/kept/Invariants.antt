use Prim.Native.Nat.{◌≤◌}
use Rattle.bucket_sweep.specs.Steps.{stays}
use Rattle.bucket_sweep.proofs.Laws.{Kept}
use Rattle.bucket_sweep.proofs.kept.Given as goal

abbrev pub invariant-loop-i : goal.invariant-loop-i
invariant-loop-i l = (l.i ≤ l.l.len) × Kept (stays l.waiting l.clock.0) l.l.items l.kept.items l.i l.n
