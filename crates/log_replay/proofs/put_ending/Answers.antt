-- `log_replay::put_ending` meets its contract. Assumes nothing.
use native.Mathlib.Omega.{arith}
use Rattle.log_replay.proofs.Ending.{nothing-printed, printed-sound, printed-room, printed}
use Rattle.log_replay.proofs.put_ending.Goals as goal

pub returns-then-replay-eq0 : goal.returns-then-replay-eq0
returns-then-replay-eq0 c = let a = c.args in
    let whole = nothing-printed a.replay a.memory.now a.out.now c.if-replay-eq0.true in
    record { len = whole.0; written = whole.1.0; room = whole.1.1 }

pub put_table-requires : goal.put_table-requires
put_table-requires c = let a = c.args in
    let p = c.requires in
    let z = c.size-size in (
      printed-sound a.replay a.memory.now p.1.0 p.1.1.0 c.if-replay-eq0.false p.1.1.1 z.result z.ensures.size,
      omega (arith, p.0, printed-room a.replay a.memory.now p.1.0 p.1.1.0 c.if-replay-eq0.false p.1.1.1 z.result z.ensures.size),
    )

pub returns : goal.returns
returns c = let a = c.args in
    let p = c.requires in
    let z = c.size-size in
    let whole = printed a.replay a.memory.now p.1.0 p.1.1.0 c.if-replay-eq0.false p.1.1.1 z.result z.ensures.size a.out.now
    (λ i. (c.shared_slice_known-1.given i).fits) (c.put_table.ensures.value, c.put_table.ensures.out_after) in
    record { len = whole.0; written = whole.1.0; room = whole.1.1 }
