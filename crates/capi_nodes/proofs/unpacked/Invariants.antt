use mathlib.Core.Path.{◌≡◌}
use lib.ListN.{length, take}
use Rattle.table_model.specs.Layout.{tabulate}
use Rattle.capi_nodes.specs.Packed.{packed_at}
use Rattle.capi_nodes.proofs.unpacked.Given as goal

abbrev pub invariant-loop-i : goal.invariant-loop-i
invariant-loop-i l = (length l.list ≡ 16) × (take l.i l.list ≡ tabulate l.i (packed_at l.nodes))
