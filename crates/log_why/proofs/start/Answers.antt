-- `log_why::start` meets its contract. Assumes nothing.
use mathlib.Core.Path.{refl}
use Rattle.log_why.proofs.start.Goals as goal

pub returns : goal.returns
returns c = record { replay = c.new-replay.ensures; place = c.nowhere-place.ensures; trail = refl }
