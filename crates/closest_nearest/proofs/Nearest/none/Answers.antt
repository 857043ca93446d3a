-- `closest_nearest::Nearest::none` meets its contract. Assumes nothing.
use mathlib.Core.Path.{ap}
use lib.ListN.{replicate}
use Rattle.closest_nearest.specs.declared.Nearest.{Nearest}
use Rattle.closest_nearest.proofs.Nearest.none.Goals as goal

pub returns : goal.returns
returns c = ap (λ n. let r : Nearest = record { count = 0; list = replicate 16 n } in r) c.none-n.ensures
