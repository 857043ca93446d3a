-- `log_why::look` meets its contract. Assumes nothing.
use Rattle.log_acts.proofs.Calls.{at_front}
use Rattle.log_why.proofs.Places.{sound_slot, front-sound, stands_nowhere, stands_looked}
use Rattle.log_why.proofs.look.Goals as goal

pub returns-then-replay-eq0 : goal.returns-then-replay-eq0
returns-then-replay-eq0 c = let a = c.args in stands_nowhere a.key.now a.replay a.memory.now c.if-replay-eq0.true c.nowhere.ensures

pub slot_of-slot-requires : goal.slot_of-slot-requires
slot_of-slot-requires c = let a = c.args in
    let p = c.requires in
    (sound_slot _ a.key.now (front-sound a.replay a.memory.now c.size-size.result c.size-size.ensures.size p.0 p.1.0 p.1.1 c.if-replay-eq0.false)).header

pub bucket_in-requires : goal.bucket_in-requires
bucket_in-requires c = let a = c.args in
    let p = c.requires in
    rw c.slot_of-slot.ensures
    (sound_slot _ a.key.now (front-sound a.replay a.memory.now c.size-size.result c.size-size.ensures.size p.0 p.1.0 p.1.1 c.if-replay-eq0.false))

pub returns : goal.returns
returns c = let a = c.args in
    let p = c.requires in
    let z = c.size-size in
    stands_looked a.key.now a.replay a.memory.now _ (at_front a.replay a.memory.now z.result z.ensures.size)
    (front-sound a.replay a.memory.now z.result z.ensures.size p.0 p.1.0 p.1.1 c.if-replay-eq0.false)
    c.bucket_in.result (rw c.slot_of-slot.ensures at c.bucket_in.ensures.0) c.look_up.result c.look_up.ensures
