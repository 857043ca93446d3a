use Prim.Native.Nat.{◌≤◌}
use Rattle.closest_nearest.proofs.Place.{Behind}
use Rattle.closest_nearest.proofs.Nearest.place.Given as goal

abbrev pub invariant-loop-k : goal.invariant-loop-k
invariant-loop-k l = (l.k ≤ l.self.count) × Behind l.x.far l.self l.k
