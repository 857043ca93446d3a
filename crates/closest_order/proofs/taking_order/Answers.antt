-- `closest_order::taking_order` meets its contract. The invariant: the numbers from i on are in. Assumes nothing.
use mathlib.Core.Path.{sym, ◌∙◌}
use native.Mathlib.Omega.{arith}
use Rattle.distance.specs.Distance.{distance}
use Rattle.closest_order.proofs.Filled.{filled_none, filled-set, filled-clear, filled-all}
use Rattle.closest_order.proofs.taking_order.Goals as goal

pub loop-i-init : goal.loop-i-init
loop-i-init c = filled_none (distance c.args.own c.args.target) c.args.count c.requires

pub bit_differs-requires : goal.bit_differs-requires
bit_differs-requires c = omega (arith, c.loop-i.invariant.below)

pub overflow_cast-order : goal.overflow_cast-order
overflow_cast-order c = omega (arith, c.loop-i.invariant.below)

pub bounds-order-front : goal.bounds-order-front
bounds-order-front c = omega (arith, c.requires, c.loop-i.invariant.last, c.loop-i.invariant.left)

pub loop-i-preserved-then-bit_differs : goal.loop-i-preserved-then-bit_differs
loop-i-preserved-then-bit_differs c = let at_loop = c in
    let args = at_loop.args in
    filled-set (distance args.own args.target) args.count at_loop.requires at_loop.loop-i.invariant (omega (arith, at_loop.requires, at_loop.loop-i.invariant.left))
    (sym c.bit_differs.ensures ∙ c.if-bit_differs.true)

pub overflow_cast-order-else-bit_differs : goal.overflow_cast-order-else-bit_differs
overflow_cast-order-else-bit_differs c = omega (arith, c.loop-i.invariant.below)

pub bounds-order-back : goal.bounds-order-back
bounds-order-back c = omega (arith, c.requires, c.loop-i.invariant.last, c.loop-i.invariant.left)

pub loop-i-preserved : goal.loop-i-preserved
loop-i-preserved c = let at_loop = c in
    let args = at_loop.args in
    filled-clear (distance args.own args.target) args.count at_loop.requires at_loop.loop-i.invariant (omega (arith, at_loop.requires, at_loop.loop-i.invariant.left))
    (sym c.bit_differs.ensures ∙ c.if-bit_differs.false)

pub returns : goal.returns
returns c = let at_loop = c in
    let args = at_loop.args in
    filled-all (distance args.own args.target) args.count at_loop.requires at_loop.loop-i.invariant (omega (arith, at_loop.requires, at_loop.loop-i.invariant.left))
