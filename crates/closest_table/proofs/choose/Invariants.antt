use Prim.Native.Nat.{◌≤◌}
use Rattle.closest_table.proofs.Walk.{Turned}
use Rattle.closest_table.proofs.choose.Given as goal

abbrev pub invariant-loop-k : goal.invariant-loop-k
invariant-loop-k l = (l.k ≤ l.count) × Turned l.bytes l.target l.k l.best l.distances
