-- `packet_schema::each_node` meets its contract. Assumes nothing.
use mathlib.Core.Path.{◌∙◌}
use native.Mathlib.Omega.{arith}
use Rattle.rlp.proofs.Reading.{head_at, item_at}
use Rattle.packet_schema.proofs.Turns.{nodes-none, nodes-end, nodes-item}
use Rattle.packet_schema.proofs.each_node.Goals as goal

pub returns-in_default : goal.returns-in_default
returns-in_default c = let l = c.loop-at in
    nodes-none c.args.s.now l.at l.verdict (head_at c.args.s.now l.at c.read_header.ensures c.in_default.is) ∙ l.invariant.1

pub loop-at-smaller : goal.loop-at-smaller
loop-at-smaller c = omega (arith, item_at c.args.s.now c.loop-at.at c.loop-at.invariant.0 (head_at c.args.s.now c.loop-at.at c.read_header.ensures c.in-Some.is))

pub loop-at-preserved : goal.loop-at-preserved
loop-at-preserved c = let l = c.loop-at in
    let s = c.args.s.now in
    let h = head_at s l.at c.read_header.ensures c.in-Some.is in
    ((item_at s l.at l.invariant.0 h).1, nodes-item s l.at l.verdict h c.node-one.ensures c.worst-verdict.ensures ∙ l.invariant.1)

pub returns : goal.returns
returns c = nodes-end c.args.s.now c.loop-at.at c.loop-at.verdict c.loop-at-test.false ∙ c.loop-at.invariant.1
