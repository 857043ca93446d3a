use mathlib.Core.Path.{◌≡◌}
use Prim.Native.Nat.{◌+◌, ◌≤◌}
use lib.ListN.{take}
use Rattle.lists.specs.Lists.{all}
use Rattle.closest_nearest.specs.Sort.{insert_all}
use Rattle.closest_nearest.specs.Nearest.{farness, holding, held}
use Rattle.closest_table.specs.Closest.{in_home, candidates_of}
use Rattle.table_model.proofs.Entries.{behind}
use Rattle.closest_table.proofs.gather.Given as goal

abbrev pub invariant-loop-i : goal.invariant-loop-i
invariant-loop-i l = (l.i ≤ l.n)
    × ((l.home ≡ all (in_home l.own l.number) (behind l.bytes l.at l.n l.i))
    × ((l.best ≡ holding (take 16 (insert_all farness (candidates_of l.target l.slot l.i (behind l.bytes l.at l.n l.i)) (held l.initial.best)))) × (l.distances + l.i ≡ l.n)))
