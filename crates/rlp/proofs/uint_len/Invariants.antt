use Prim.Native.Nat.{◌+◌}
use mathlib.Core.Path.{◌≡◌}
use Rattle.rlp.specs.Numbers.{width}
use Rattle.rlp.proofs.uint_len.Given as goal

abbrev pub invariant-loop-v : goal.invariant-loop-v
invariant-loop-v l = l.k + width l.v ≡ width l.n

abbrev pub decreases-loop-v : goal.decreases-loop-v
decreases-loop-v l = l.v
