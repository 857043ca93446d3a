-- `closest_table::unsound` meets its contract. Assumes nothing.
use mathlib.Core.Path.{ap}
use mathlib.Core.Bool.{false}
use Rattle.closest_table.specs.declared.Chosen.{Chosen}
use Rattle.closest_table.proofs.unsound.Goals as goal

pub returns : goal.returns
returns c = ap (λ n. let r : Chosen = record { sound = false; nearest = n; distances = 0 } in r) c.none.ensures
