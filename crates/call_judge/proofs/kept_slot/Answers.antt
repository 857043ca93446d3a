-- `call_judge::kept_slot` meets its contract. Assumes nothing.
use Rattle.call_judge.proofs.kept_slot.Goals as goal

pub returns-in-Ok : goal.returns-in-Ok
returns-in-Ok c = simp (← c.kept_place.ensures, c.in-Ok.is)

pub returns-in-Err : goal.returns-in-Err
returns-in-Err c = simp (c.number.ensures, ← c.kept_place.ensures, c.in-Err.is)
