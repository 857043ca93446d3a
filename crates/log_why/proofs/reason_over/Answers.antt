-- `log_why::reason_over` meets its contract. Assumes nothing.
use mathlib.Core.Path.{sym, ◌∙◌}
use native.Mathlib.Omega.{arith}
use Rattle.text.proofs.Marks.{take-until}
use Rattle.log_why.proofs.Whole.{begins, ready, goes_on, told-by}
use Rattle.log_why.proofs.reason_over.Goals as goal

pub loop-at-init : goal.loop-at-init
loop-at-init c = let a = c.args in
    let size = c.table_memory-memory.ensures in
    (size, begins a.log.now a.key.now _ _ (omega (arith, size)) c.start-tracked.ensures)

pub slice_bounds-note_line-end : goal.slice_bounds-note_line-end
slice_bounds-note_line-end c = c.loop-at.invariant.0

pub note_line-tracked-requires : goal.note_line-tracked-requires
note_line-tracked-requires c = let a = c.args in
    let l = c.loop-at in
    ready a.log.now a.key.now l.memory l.tracked l.at l.invariant.1 (omega arith) c.loop-at-test.true

pub loop-at-preserved : goal.loop-at-preserved
loop-at-preserved c = let a = c.args in
    let l = c.loop-at in
    let n = c.note_line-tracked in
    (l.invariant.0 ∙ sym n.auto.memory, goes_on a.log.now a.key.now l.memory l.tracked l.at l.invariant.1 c.loop-at-test.true c.find-end.ensures.end _ (take-until 10 a.log.now l.at c.find-end.result c.find-end.ensures.end) n.result _ n.auto.memory n.ensures (omega (arith, c.find-end.ensures.within)))

pub returns : goal.returns
returns c = let a = c.args in
    let l = c.loop-at in
    c.reason_of.ensures ∙ told-by a.log.now a.key.now l.memory l.tracked l.at l.invariant.1 c.loop-at-test.false
