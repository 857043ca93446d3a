-- `rlp::items_whole` meets its contract. The invariant: what is left decides. Assumes nothing.
use Prim.Native.Nat.{◌≤◌}
use mathlib.Core.Path.{refl, sym, ◌∙◌}
use native.Mathlib.Omega.{arith}
use lib.ListN.{length}
use Rattle.rlp.proofs.Reading.{end-bound, whole-on, whole-off, whole_end}
use Rattle.rlp.proofs.items_whole.Goals as goal

pub loop-at-init : goal.loop-at-init
loop-at-init c = (omega arith, refl)

pub returns-then-end-at : goal.returns-then-end-at
returns-then-end-at c = let at_loop = c in
    let s = at_loop.args.s.now in
    sym (whole-off s at_loop.loop-at.at c.item_end-end.result c.item_end-end.ensures c.if-end-at.true (omega arith)) ∙ at_loop.loop-at.invariant.1

pub loop-at-smaller : goal.loop-at-smaller
loop-at-smaller c =
    let ends : (c.loop-at.at ≤ c.item_end-end.result) × (c.item_end-end.result ≤ length c.args.s.now) = let l = c.loop-at in end-bound c.args.s.now l.at c.item_end-end.result c.item_end-end.ensures l.invariant.0 in
    omega (arith, ends)

pub loop-at-preserved : goal.loop-at-preserved
loop-at-preserved c =
    let ends : (c.loop-at.at ≤ c.item_end-end.result) × (c.item_end-end.result ≤ length c.args.s.now) = let l = c.loop-at in end-bound c.args.s.now l.at c.item_end-end.result c.item_end-end.ensures l.invariant.0 in
    let at_loop = c in
    let s = at_loop.args.s.now in
    (ends.1, whole-on s at_loop.loop-at.at c.item_end-end.result c.item_end-end.ensures c.if-end-at.false ∙ at_loop.loop-at.invariant.1)

pub returns : goal.returns
returns c = let at_loop = c in
    sym (whole_end at_loop.args.s.now at_loop.loop-at.at (omega arith)) ∙ at_loop.loop-at.invariant.1
