use mathlib.Core.Path.{◌≡◌}
use Prim.Native.Nat.{◌≤◌}
use lib.ListN.{length, take, drop}
use Rattle.octets.specs.Octets.{store}
use Rattle.octets.proofs.get_bytes.Given as goal

abbrev pub invariant-loop-i : goal.invariant-loop-i
invariant-loop-i l = (l.i ≤ length l.initial.dst) × ((length l.dst ≡ length l.initial.dst) × (l.dst ≡ store l.initial.dst 0 (take l.i (drop l.at l.bytes))))
