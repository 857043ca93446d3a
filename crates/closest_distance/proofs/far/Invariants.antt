use mathlib.Core.Path.{◌≡◌}
use Prim.Native.Nat.{◌≤◌}
use lib.ListN.{length, take}
use Rattle.octets.specs.Octets.{big_endian}
use Rattle.distance.proofs.Laws.{up_to}
use Rattle.closest_distance.proofs.far.Given as goal

abbrev pub invariant-loop-i : goal.invariant-loop-i
invariant-loop-i l = (l.i ≤ 32) × ((length l.bytes ≡ 32) × (take l.i l.bytes ≡ big_endian l.i (up_to l.target l.hash l.i)))
