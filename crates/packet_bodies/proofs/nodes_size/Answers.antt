-- `packet_bodies::nodes_size` meets its contract: what is added up and what the nodes that are left take is the whole. Assumes nothing.
use mathlib.Core.Path.{ap}
use mathlib.Core.List.{List, map}
use native.Mathlib.Omega.{arith}
use lib.ListN.{length}
use Rattle.packet_model.specs.Items.{node_item}
use Rattle.node.specs.declared.Node.{Node}
use Rattle.rlp.specs.Encoding.{encodes}
use Rattle.packet_bodies.specs.Parts.{nodes_in}
use Rattle.packet_bodies.proofs.Nodes.{most, addresses, has_address, have-more, next-size, all-passed}
use Rattle.packet_bodies.proofs.nodes_size.Goals as goal

pub loop-node-init : goal.loop-node-init
loop-node-init c = (omega arith, addresses c.args.list c.requires, omega arith)

pub node_size-size-requires : goal.node_size-size-requires
node_size-size-requires c = has_address (nodes_in c.args.list) c.loop-node.node-index c.loop-node-test.true c.loop-node.invariant.1

pub overflow_add-size : goal.overflow_add-size
overflow_add-size c = omega (arith, most c.args.list c.requires, c.loop-node.invariant.0, c.node_size-size.ensures.1)

pub loop-node-preserved : goal.loop-node-preserved
loop-node-preserved c =
    let ns = nodes_in c.args.list in
    let l = c.loop-node in
    let t = c.loop-node-test.true in (
      omega (arith, l.invariant.0, c.node_size-size.ensures.1),
      have-more ns l.node-index t l.invariant.1,
      omega (arith, l.invariant.2, c.node_size-size.ensures.0, next-size ns l.node-index t),
    )

pub returns : goal.returns
returns c =
    let ns = nodes_in c.args.list in
    let l = c.loop-node in
    let e = ap (λ (ns : List Node). length (encodes (map node_item ns))) (all-passed ns l.node-index (omega (arith, c.loop-node-test.false))) in
    (omega (arith, l.invariant.2, e), omega (arith, l.invariant.0, most c.args.list c.requires))
