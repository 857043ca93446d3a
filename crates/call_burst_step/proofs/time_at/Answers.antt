-- `call_burst_step::time_at` meets its contract. Assumes nothing.
use mathlib.Core.Path.{◌≡◌, sym, ap}
use mathlib.Core.Bool.{Bool, true, false}
use Prim.Native.Nat.{◌<◌}
use native.Mathlib.Omega.{arith}
use lib.ListN.{length}
use Rattle.call_burst_step.specs.Steps.{time_at}
use Rattle.call_burst_step.proofs.time_at.Goals as goal

pub offset_bounds-readings-i : goal.offset_bounds-readings-i
offset_bounds-readings-i c =
    let in_readings : c.args.low ≡ true → c.args.i < length c.args.readings.now = λ h. rw h at c.requires in
    omega (arith, in_readings c.if-low.true)

pub bounds-readings-i : goal.bounds-readings-i
bounds-readings-i c =
    let in_readings : c.args.low ≡ true → c.args.i < length c.args.readings.now = λ h. rw h at c.requires in
    omega (arith, in_readings c.if-low.true)

pub returns-then-low : goal.returns-then-low
returns-then-low c = let a = c.args in
    sym (ap (λ (l : Bool). time_at l a.millis.now a.readings.now a.i) c.if-low.true)

pub offset_bounds-millis-i : goal.offset_bounds-millis-i
offset_bounds-millis-i c =
    let in_millis : c.args.low ≡ false → c.args.i < length c.args.millis.now = λ h. rw h at c.requires in
    omega (arith, in_millis c.if-low.false)

pub bounds-millis-i : goal.bounds-millis-i
bounds-millis-i c =
    let in_millis : c.args.low ≡ false → c.args.i < length c.args.millis.now = λ h. rw h at c.requires in
    omega (arith, in_millis c.if-low.false)

pub returns : goal.returns
returns c = let a = c.args in
    sym (ap (λ (l : Bool). time_at l a.millis.now a.readings.now a.i) c.if-low.false)
