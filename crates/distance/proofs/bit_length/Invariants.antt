use mathlib.Core.Path.{◌≡◌}
use Prim.Native.Nat.{◌≤◌}
use Rattle.distance.proofs.Laws.{up_to}
use Rattle.distance.proofs.bit_length.Given as goal

abbrev pub invariant-loop-i : goal.invariant-loop-i
invariant-loop-i l = (l.i ≤ 32) × (up_to l.a l.b l.i ≡ 0)
