use Prim.Native.Nat.{◌≤◌}
use mathlib.Core.Path.{◌≡◌}
use lib.ListN.{length}
use Rattle.packet_kinds.specs.Payload.{items_of}
use Rattle.packet_schema.specs.Schema as spec
use Rattle.packet_schema.proofs.Turns.{todo}
use Rattle.packet_schema.proofs.fields.Given as goal

abbrev pub invariant-loop-i : goal.invariant-loop-i
invariant-loop-i l = (l.at ≤ length l.s) × (todo l.kinds l.i l.required l.s l.at l.verdict ≡ spec.fields l.required l.kinds (items_of l.s))
