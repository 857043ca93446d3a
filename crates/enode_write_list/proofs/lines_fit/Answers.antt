-- `enode_write_list::lines_fit` meets its contract: what is left of the room has to take the lines of the nodes that are left. Assumes nothing.
use native.Mathlib.Omega.{arith}
use mathlib.Core.Path.{refl, sym, ap}
use borrow.Author.Tests.{le-leb, lt-leb}
use lib.ListN.{length}
use Rattle.enode_write_list.proofs.Lines.{no_node, none_left, next_size, next_writable}
use Rattle.enode_write_list.proofs.lines_fit.Goals as goal

pub loop-node-init : goal.loop-node-init
loop-node-init c = (c.requires, refl)

pub enode_size-size-requires : goal.enode_size-size-requires
enode_size-size-requires c = (next_writable c.args.nodes.now c.loop-node.node-index _ c.loop-node-test.true c.loop-node.invariant.0).0

pub returns-then-left-size : goal.returns-then-left-size
returns-then-left-size c =
    let l = c.loop-node in
    sym (lt-leb _ _ (omega (arith, l.invariant.1, next_size c.args.nodes.now l.node-index no_node c.loop-node-test.true, c.enode_size-size.ensures.size, c.if-left-size.true)))

pub loop-node-preserved : goal.loop-node-preserved
loop-node-preserved c =
    let l = c.loop-node in
    let t = c.loop-node-test.true in (
      (next_writable c.args.nodes.now l.node-index no_node t l.invariant.0).1,
      omega (arith, l.invariant.1, next_size c.args.nodes.now l.node-index no_node t, c.enode_size-size.ensures.size, c.if-left-size.false),
    )

pub returns : goal.returns
returns c =
    sym (le-leb _ _ (omega (arith, c.loop-node.invariant.1, ap length (none_left c.args.nodes.now c.loop-node.node-index (omega (arith, c.loop-node-test.false))))))
