-- `call_low::low_clock` meets its contract. Assumes nothing.
use native.Mathlib.Omega.{arith}
use mathlib.Core.Path.{◌∙◌}
use Rattle.call_low.proofs.Front.{no-clock, clock-of}
use Rattle.call_low.proofs.low_clock.Goals as goal

pub returns-then-table-lt-HEADER_SIZE : goal.returns-then-table-lt-HEADER_SIZE
returns-then-table-lt-HEADER_SIZE c = let a = c.args in
    no-clock a.table.now a.reading.0 (omega arith)

pub returns : goal.returns
returns c = let a = c.args in
    c.ok_or.ensures.value ∙ clock-of a.table.now a.reading.0 (omega arith) c.clock-last.ensures c.widen.ensures
