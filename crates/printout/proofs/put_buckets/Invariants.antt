use Prim.Native.Nat.{◌≤◌}
use mathlib.Core.Path.{◌≡◌}
use mathlib.Core.List.{[], ◌∷◌}
use lib.ListN.{length}
use Rattle.table_model.specs.Layout.{count_of, buckets_of}
use Rattle.octets.proofs.Progress.{Progress}
use Rattle.printout.specs.Printout.{buckets_rows}
use Rattle.printout.proofs.Rows.{first_distance, rows_from}
use Rattle.printout.proofs.put_buckets.Given as goal

abbrev pub invariant-loop-slot : goal.invariant-loop-slot
invariant-loop-slot l = (l.slot ≤ count_of l.table)
    × (length l.out ≡ length l.initial.out)
    × Progress l.initial.out l.at (buckets_rows (first_distance l.table) (buckets_of l.table) ∷ []) (rows_from l.table l.slot ∷ []) l.out l.next
