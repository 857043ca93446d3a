use Prim.Native.Nat.{◌≤◌}
use mathlib.Core.Path.{◌≡◌}
use lib.ListN.{length, drop}
use Rattle.packet_kinds.specs.Payload.{items_of}
use Rattle.packet_kinds.specs.Kinds as spec
use Rattle.packet_kinds.proofs.leaves.Given as goal

abbrev pub invariant-loop-kind : goal.invariant-loop-kind
invariant-loop-kind l = (l.at ≤ length l.s) × (spec.leaves (drop l.kind-index l.kinds) (items_of (drop l.at l.s)) ≡ spec.leaves l.kinds (items_of l.s))
