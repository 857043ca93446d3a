use mathlib.Core.Path.{◌≡◌}
use Prim.Native.Nat.{◌≤◌}
use Rattle.lists.specs.Lists.{all}
use Rattle.closest_table.specs.Closest.{in_home}
use Rattle.table_model.proofs.Entries.{behind}
use Rattle.closest_table.proofs.all_home.Given as goal

abbrev pub invariant-loop-i : goal.invariant-loop-i
invariant-loop-i l = (l.i ≤ l.n) × (l.home ≡ all (in_home l.own l.number) (behind l.bytes l.at l.n l.i))
