-- `call_key::place_of` meets its contract. Assumes nothing.
use mathlib.Core.Path.{refl}
use Rattle.call_key.proofs.place_of.Goals as goal

pub returns-in-Slot : goal.returns-in-Slot
returns-in-Slot c = rw c.in-Slot.is refl
