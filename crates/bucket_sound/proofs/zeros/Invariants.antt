use mathlib.Core.Path.{◌≡◌}
use mathlib.Core.Bool.{◌&&◌}
use Prim.Native.Nat.{◌-◌}
use lib.Dec.{eqb}
use lib.ListN.{replicate, drop}
use Rattle.octets.specs.Octets.{same_bytes}
use Rattle.bucket_sound.proofs.zeros.Given as goal

abbrev pub invariant-loop-b : goal.invariant-loop-b
invariant-loop-b l = (eqb l.any 0 && same_bytes (replicate (l.n - l.b-index) 0) (drop l.b-index l.b-items)) ≡ same_bytes (replicate l.n 0) l.b-items
