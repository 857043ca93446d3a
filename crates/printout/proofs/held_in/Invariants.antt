use Prim.Native.Nat.{◌+◌, ◌*◌, ◌≤◌}
use mathlib.Core.Path.{◌≡◌}
use Rattle.table_model.specs.Layout.{count_of, buckets_of}
use Rattle.printout.specs.TableRow.{entry_total, replacement_total}
use Rattle.printout.proofs.Counts.{entries_from, replacements_from}
use Rattle.printout.proofs.held_in.Given as goal

abbrev pub invariant-loop-slot : goal.invariant-loop-slot
invariant-loop-slot l = (l.slot ≤ count_of l.table)
    × ((l.entries ≤ l.slot * 16) × (l.entries + entries_from l.table l.slot ≡ entry_total (buckets_of l.table)))
    × ((l.replacements ≤ l.slot * 4) × (l.replacements + replacements_from l.table l.slot ≡ replacement_total (buckets_of l.table)))
