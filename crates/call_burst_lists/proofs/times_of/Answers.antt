-- `call_burst_lists::times_of` meets its contract. Assumes nothing.
use mathlib.Core.Path.{sym, ap}
use mathlib.Core.Bool.{Bool}
use lib.ListN.{length}
use Rattle.call_burst_lists.specs.Times.{times_by}
use Rattle.call_burst_lists.proofs.times_of.Goals as goal

pub returns-then-low : goal.returns-then-low
returns-then-low c = let a = c.args in
    sym (ap (λ (l : Bool). length (times_by l a.millis.now a.readings.now)) c.if-low.true)

pub returns : goal.returns
returns c = let a = c.args in
    sym (ap (λ (l : Bool). length (times_by l a.millis.now a.readings.now)) c.if-low.false)
