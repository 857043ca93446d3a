use Prim.Native.Nat.{◌≤◌, ◌-◌}
use mathlib.Core.Path.{◌≡◌}
use lib.ListN.{length}
use Rattle.packet_kinds.specs.Payload.{items_of}
use Rattle.packet_schema.specs.Schema.{each_node}
use Rattle.packet_schema.proofs.Turns.{nodes-todo}
use Rattle.packet_schema.proofs.each_node.Given as goal

abbrev pub invariant-loop-at : goal.invariant-loop-at
invariant-loop-at l = (l.at ≤ length l.s) × (nodes-todo l.s l.at l.verdict ≡ each_node (items_of l.s))

abbrev pub decreases-loop-at : goal.decreases-loop-at
decreases-loop-at l = length l.s - l.at
