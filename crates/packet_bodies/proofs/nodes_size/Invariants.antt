use Rattle.std.proofs.Common.{◌≡◌, true, ◌+◌, ◌*◌, ◌≤◌, length, map, drop}
use Rattle.packet_model.specs.Items.{node_item}
use Rattle.rlp.specs.Encoding.{encodes}
use Rattle.packet_bodies.specs.Parts.{have_addresses}
use Rattle.packet_bodies.proofs.nodes_size.Given as goal

abbrev pub invariant-loop-node : goal.invariant-loop-node
invariant-loop-node l =
    (l.size ≤ 91 * l.node-index)
    × (have_addresses (drop l.node-index l.node-items) ≡ true)
    × (l.size + length (encodes (map node_item (drop l.node-index l.node-items))) ≡ length (encodes (map node_item l.node-items)))
