-- `call_low::back_number` meets its contract. Assumes nothing.
use mathlib.Core.Path.{sym, ap}
use Rattle.call_touched.proofs.Touch.{unsound-reached, sound-reached}
use Rattle.call_low.specs.Steps.{back_number}
use Rattle.call_low.proofs.back_number.Goals as goal

pub returns-in-Unsound : goal.returns-in-Unsound
returns-in-Unsound c = let a = c.args in
    sym (ap back_number (unsound-reached a.table.now a.key.now c.reached_by-reached.ensures c.in-Unsound.is))

pub returns-in-At : goal.returns-in-At
returns-in-At c = let a = c.args in
    sym (ap back_number (sound-reached a.table.now a.key.now c.reached_by-reached.ensures c.in-At.is).0)
