-- `call_key::key_place` meets its contract. Assumes nothing.
use Rattle.call_touched.proofs.Touch.{unsound-reached, sound-reached}
use Rattle.call_key.proofs.Places.{unsound-place, sound-place}
use Rattle.call_key.proofs.key_place.Goals as goal

pub returns-in-Unsound : goal.returns-in-Unsound
returns-in-Unsound c = let a = c.args in
    (unsound-place a.table.now a.key.now (unsound-reached a.table.now a.key.now c.reached_by-reached.ensures c.in-Unsound.is), tt)

pub returns-in-At : goal.returns-in-At
returns-in-At c = let a = c.args in
    let g = sound-reached a.table.now a.key.now c.reached_by-reached.ensures c.in-At.is in
    sound-place a.table.now a.key.now g.0 g.1 c.place_of.ensures
