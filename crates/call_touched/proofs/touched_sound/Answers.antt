-- `call_touched::touched_sound` meets its contract. Assumes nothing.
use Rattle.call_touched.proofs.touched_sound.Goals as goal

pub slot_sound-requires : goal.slot_sound-requires
slot_sound-requires c = (c.requires.0, rw c.in-Slot.is at c.requires.1)

pub returns-in-Slot : goal.returns-in-Slot
returns-in-Slot c = rw c.in-Slot.is c.slot_sound.ensures
