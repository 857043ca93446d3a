use Rattle.std.proofs.Common.{◌≡◌, true, map, drop}
use Rattle.packet_model.specs.Items.{node_item}
use Rattle.octets.proofs.Progress.{Progress}
use Rattle.packet_bodies.specs.Parts.{have_addresses}
use Rattle.packet_bodies.proofs.Pieces.{pieces}
use Rattle.packet_bodies.proofs.put_nodes.Given as goal

abbrev pub invariant-loop-node : goal.invariant-loop-node
invariant-loop-node l =
    (have_addresses (drop l.node-index l.node-items) ≡ true)
    × Progress l.initial.buf l.at (pieces (map node_item l.node-items)) (pieces (map node_item (drop l.node-index l.node-items))) l.buf l.next
