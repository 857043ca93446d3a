-- `enode_list::read_enodes` meets its contract. The invariant: the nodes of the lines before index at are stored. Assumes nothing.
use mathlib.Core.Path.{ap}
use Prim.Native.Nat.{ℕ, ◌+◌}
use native.Mathlib.Omega.{arith}
use Rattle.enode_list.proofs.Planned.{begun, read, ends-complete, ends-unfit, ends-full, goes_on}
use Rattle.enode_list.proofs.read_enodes.Goals as goal

pub loop-at-init : goal.loop-at-init
loop-at-init c = let a = c.args in
    record { going = begun a.text.now a.list.now; lines = omega arith; within = omega arith }

pub returns-in_default : goal.returns-in_default
returns-in_default c = let l = c.loop-at in
    let end = c.find-end in
    ends-unfit l.invariant.going c.loop-at-test.true (ap (λ (n : ℕ). n + 1) end.ensures.end) (read c.args.text.now l.at end.result end.ensures.end c.read_enode.ensures c.in_default.is)

pub returns-then-count-list : goal.returns-then-count-list
returns-then-count-list c = let l = c.loop-at in
    let end = c.find-end in
    ends-full l.invariant.going c.loop-at-test.true (ap (λ (n : ℕ). n + 1) end.ensures.end) (read c.args.text.now l.at end.result end.ensures.end c.read_enode.ensures c.in-Some.is) (omega (arith, l.invariant.going.size))

pub loop-at-preserved : goal.loop-at-preserved
loop-at-preserved c = let l = c.loop-at in
    let end = c.find-end in
    let g = l.invariant.going in
    let more = goes_on g c.loop-at-test.true (ap (λ (n : ℕ). n + 1) end.ensures.end) (read c.args.text.now l.at end.result end.ensures.end c.read_enode.ensures c.in-Some.is) (omega (arith, g.size, g.few, c.if-count-list.false)) in
    record { going = more; lines = omega (arith, end.ensures.end, l.invariant.lines); within = omega (arith, end.ensures.within) }

pub returns : goal.returns
returns c = let l = c.loop-at in
    ends-complete l.invariant.going (omega arith)
