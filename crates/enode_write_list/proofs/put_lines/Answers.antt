-- `enode_write_list::put_lines` meets its contract: the lines of the nodes that are left are still to come. Assumes nothing.
use native.Mathlib.Omega.{arith}
use mathlib.Core.Path.{refl, sym, ap, ◌∙◌}
use lib.ListN.{length}
use Rattle.octets.specs.Octets.{store}
use Rattle.enode_write_list.proofs.Lines.{no_node, none_left, next_size, next_writable, next_store}
use Rattle.enode_write_list.proofs.put_lines.Goals as goal

pub loop-node-init : goal.loop-node-init
loop-node-init c = (c.requires.writable, omega arith, refl)

pub put_enode-at-requires : goal.put_enode-at-requires
put_enode-at-requires c =
    let l = c.loop-node in
    let t = c.loop-node-test.true in
    ((next_writable c.args.nodes.now l.node-index no_node t l.invariant.0).0, omega (arith, l.invariant.1, l.auto.buf, c.requires.room, next_size c.args.nodes.now l.node-index no_node t))

pub loop-node-preserved : goal.loop-node-preserved
loop-node-preserved c =
    let l = c.loop-node in
    let t = c.loop-node-test.true in
    let w = c.put_enode-at.ensures in (
      (next_writable c.args.nodes.now l.node-index no_node t l.invariant.0).1,
      omega (arith, l.invariant.1, w.next, next_size c.args.nodes.now l.node-index no_node t),
      rw (w.next, w.bytes) (next_store c.args.nodes.now l.node-index no_node t l.buf l.at ∙ l.invariant.2),
    )

pub returns : goal.returns
returns c =
    let l = c.loop-node in
    let e = none_left c.args.nodes.now l.node-index (omega (arith, c.loop-node-test.false)) in
    record { next = omega (arith, l.invariant.1, ap length e); bytes = ap (store l.buf l.at) (sym e) ∙ l.invariant.2 }
