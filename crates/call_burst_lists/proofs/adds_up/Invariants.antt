use mathlib.Core.Path.{◌≡◌}
use Prim.Native.Nat.{◌≤◌}
use lib.Dec.{eqb}
use lib.ListN.{length, drop}
use Rattle.call_burst_lists.specs.Lists.{sum}
use Rattle.call_burst_lists.proofs.adds_up.Given as goal

abbrev pub invariant-loop-len : goal.invariant-loop-len
invariant-loop-len l = (l.len-index ≤ length l.lengths) × (eqb (sum (drop l.len-index l.lengths)) l.left ≡ eqb (sum l.lengths) l.size)
