-- `call_burst::burst_by` meets its contract. Assumes nothing.
use mathlib.Core.Path.{sym, ◌∙◌}
use Rattle.call_burst_lists.specs.Lists.{Burst}
use Rattle.call_burst_lists.specs.Times.{lent_by}
use Rattle.call_burst.proofs.Run.{handled, refused}
use Rattle.call_burst.proofs.burst_by.Goals as goal

pub returns-then-not-is_whole : goal.returns-then-not-is_whole
returns-then-not-is_whole c =
    let x = c.args in
    let lent : Burst = lent_by x.low x.buffer.now x.lengths.now x.signers.now x.addresses.now x.ports.now x.millis.now x.readings.now x.unix.now in
    let all = refused x.low x.table.now lent x.numbers.now c.is_whole.ensures c.if-not-is_whole.true in
    record { value = all.0; table_after = all.1.0; numbers_after = all.1.1 }

pub hand_over_all-requires : goal.hand_over_all-requires
hand_over_all-requires c = sym c.is_whole.ensures ∙ c.if-not-is_whole.false

pub returns : goal.returns
returns c =
    let x = c.args in
    let lent : Burst = lent_by x.low x.buffer.now x.lengths.now x.signers.now x.addresses.now x.ports.now x.millis.now x.readings.now x.unix.now in
    let done = c.hand_over_all in
    let all = handled x.low x.table.now lent x.numbers.now done.new.table done.new.numbers c.is_whole.ensures c.if-not-is_whole.false done.ensures.table_after done.ensures.numbers_after in
    record { value = all.0; table_after = all.1.0; numbers_after = all.1.1 }
