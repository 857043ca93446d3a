use Prim.Native.Nat.{◌≤◌}
use mathlib.Core.Path.{◌≡◌}
use mathlib.Core.List.{[], ◌∷◌}
use lib.ListN.{length}
use Rattle.lists.specs.Lists.{All}
use Rattle.bucket_model.specs.Contents.{entries_at}
use Rattle.table_model.proofs.Entries.{behind}
use Rattle.octets.proofs.Progress.{Progress}
use Rattle.printout.specs.Printout.{entry_rows}
use Rattle.printout_entry.specs.EntryRow.{HasAddress}
use Rattle.printout.proofs.Rows.{rows_behind}
use Rattle.printout.proofs.put_entries.Given as goal

abbrev pub invariant-loop-i : goal.invariant-loop-i
invariant-loop-i l = (l.i ≤ l.n)
    × (length l.out ≡ length l.initial.out)
    × All HasAddress (behind l.table l.from l.n l.i)
    × Progress l.initial.out l.at (entry_rows l.word l.distance 1 (entries_at l.table l.from l.n) ∷ []) (rows_behind l.word l.distance l.table l.from l.n l.i ∷ []) l.out l.next
