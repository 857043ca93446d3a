-- `packet_bodies::put_nodes` meets its contract: the nodes that are left are still to come. Assumes nothing.
use mathlib.Core.Path.{ap}
use mathlib.Core.List.{List, map}
use native.Mathlib.Omega.{arith}
use lib.ListN.{length}
use Rattle.packet_model.specs.Items.{node_item}
use Rattle.node.specs.declared.Node.{Node}
use Rattle.packet_bodies.specs.Parts.{nodes_in, node_items}
use Rattle.octets.proofs.Progress.{start, room, step, renamed, finish}
use Rattle.packet_bodies.proofs.Pieces.{pieces, concat_pieces}
use Rattle.packet_bodies.proofs.Nodes.{addresses, has_address, have-more, next-piece, all-passed}
use Rattle.packet_bodies.proofs.put_nodes.Goals as goal

pub loop-node-init : goal.loop-node-init
loop-node-init c =
    let items = node_items c.args.list in (
      addresses c.args.list c.requires.0,
      start c.args.buf.now c.args.at (pieces items) (omega (arith, c.requires.1, ap length (concat_pieces items))),
    )

pub put_node-next-requires : goal.put_node-next-requires
put_node-next-requires c =
    let ns = nodes_in c.args.list in
    let l = c.loop-node in
    let t = c.loop-node-test.true in
    (has_address ns l.node-index t l.invariant.0, room (renamed (next-piece ns l.node-index t) l.invariant.1))

pub loop-node-preserved : goal.loop-node-preserved
loop-node-preserved c =
    let ns = nodes_in c.args.list in
    let l = c.loop-node in
    let t = c.loop-node-test.true in
    let w = c.put_node-next.ensures in
    (have-more ns l.node-index t l.invariant.0, step (renamed (next-piece ns l.node-index t) l.invariant.1) (w.next, w.bytes))

pub returns : goal.returns
returns c =
    let ns = nodes_in c.args.list in
    let l = c.loop-node in
    let none_left = ap (λ (ns : List Node). pieces (map node_item ns)) (all-passed ns l.node-index (omega (arith, c.loop-node-test.false))) in
    let done = finish (renamed none_left l.invariant.1) (concat_pieces (node_items c.args.list)) in
    record { next = done.0; bytes = done.1 }
