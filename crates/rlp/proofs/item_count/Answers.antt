-- `rlp::item_count` meets its contract. The invariant: n items are counted, and those that are left are to come. Assumes nothing.
use Prim.Native.Nat.{◌≤◌}
use native.Mathlib.Nat.{zero-add}
use native.Mathlib.Omega.{arith}
use lib.ListN.{length}
use Rattle.rlp.proofs.Reading.{end-bound, count-on, count-off, count_end}
use Rattle.rlp.proofs.item_count.Goals as goal

pub loop-at-init : goal.loop-at-init
loop-at-init c = (omega arith, (omega arith, zero-add _))

pub returns-then-end-at : goal.returns-then-end-at
returns-then-end-at c = let at_loop = c in
    let s = at_loop.args.s.now in
    omega (arith, count-off s at_loop.loop-at.at c.item_end-end.result c.item_end-end.ensures c.if-end-at.true)

pub loop-at-smaller : goal.loop-at-smaller
loop-at-smaller c =
    let ends : (c.loop-at.at ≤ c.item_end-end.result) × (c.item_end-end.result ≤ length c.args.s.now) = let l = c.loop-at in end-bound c.args.s.now l.at c.item_end-end.result c.item_end-end.ensures l.invariant.1.0 in
    omega (arith, ends)

pub loop-at-preserved : goal.loop-at-preserved
loop-at-preserved c =
    let ends : (c.loop-at.at ≤ c.item_end-end.result) × (c.item_end-end.result ≤ length c.args.s.now) = let l = c.loop-at in end-bound c.args.s.now l.at c.item_end-end.result c.item_end-end.ensures l.invariant.1.0 in
    let at_loop = c in
    let s = at_loop.args.s.now in
    let on = count-on s at_loop.loop-at.at c.item_end-end.result c.item_end-end.ensures c.if-end-at.false in
    (omega (arith, ends), (ends.1, omega arith))

pub returns : goal.returns
returns c = let at_loop = c in
    omega (arith, count_end at_loop.args.s.now at_loop.loop-at.at (omega arith))
