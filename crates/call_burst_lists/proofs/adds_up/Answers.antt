-- `call_burst_lists::adds_up` meets its contract. The invariant: what the datagrams from i on take is what is left, exactly if all take `size`. Assumes
-- nothing.
use mathlib.Core.Path.{refl, sym, ◌∙◌}
use native.Mathlib.Omega.{arith}
use Rattle.call_burst_lists.proofs.Sums.{left_next, left_short, left_end}
use Rattle.call_burst_lists.proofs.adds_up.Goals as goal

pub loop-len-init : goal.loop-len-init
loop-len-init c = (omega arith, refl)

pub returns-then-left-len : goal.returns-then-left-len
returns-then-left-len c = let at_loop = c in
    let l = at_loop.args.lengths.now in
    sym (left_short l at_loop.loop-len.len-index at_loop.loop-len.left (omega arith) (omega arith)) ∙ at_loop.loop-len.invariant.1

pub loop-len-preserved : goal.loop-len-preserved
loop-len-preserved c = let at_loop = c in
    let l = at_loop.args.lengths.now in
    (omega arith, left_next l at_loop.loop-len.len-index at_loop.loop-len.left (omega arith) (omega arith) ∙ at_loop.loop-len.invariant.1)

pub returns : goal.returns
returns c = let at_loop = c in
    let l = at_loop.args.lengths.now in
    left_end l at_loop.loop-len.len-index at_loop.loop-len.left (omega arith) ∙ at_loop.loop-len.invariant.1
