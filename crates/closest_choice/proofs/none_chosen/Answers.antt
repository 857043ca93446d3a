-- `closest_choice::none_chosen` meets its contract. Assumes nothing.
use mathlib.Core.Path.{ap}
use Rattle.closest_nearest.specs.declared.Nearest.{Nearest}
use Rattle.closest_choice.proofs.none_chosen.Goals as goal

pub returns : goal.returns
returns c = ap (λ (n : Nearest). record { number = c.args.number; nearest = n; distances = 0 }) c.none-nearest.ensures
