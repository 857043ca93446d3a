-- `call_touched::kept_place` meets its contract. Assumes nothing.
use mathlib.Core.Path.{refl}
use Rattle.call_touched.proofs.kept_place.Goals as goal

pub returns-in-Slot : goal.returns-in-Slot
returns-in-Slot c = rw c.in-Slot.is refl
