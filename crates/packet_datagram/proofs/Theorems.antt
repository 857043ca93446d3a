-- Accepted datagrams.
use Rattle.std.specs.Prelude.{Option}
use mathlib.Core.Path.{refl, sym, ap, ◌∙◌}
use native.Mathlib.Omega.{arith}
use lib.ListN.{drop, get_or, length-drop}
use Rattle.packet_envelope.proofs.Laws.{sized}
use Rattle.packet.specs.Packets.{type_of, read_typed}
use Rattle.packet.specs.Accepted.{neighbors_fields}
use Rattle.packet.proofs.Accepted.{read_type}
use Rattle.packet.proofs.NodeLists.{neighbors-accepted, at-most-15}
use Rattle.packet.specs.declared.PacketType.{PacketType}
use Rattle.packet.specs.declared.Packet.TheVariants.{Neighbors}
use Rattle.packet_datagram.specs.Datagram.{packet_in}
use Rattle.packet_datagram.specs.Neighbors.{NeighborsAtMost15}

pub neighbors_at_most_15 : NeighborsAtMost15
unfolding packet_in
neighbors_at_most_15 g p sl h e =
    let r = sized g h in
    let t = read_type (type_of (get_or g 97 0)) 98 (drop 98 g) (Neighbors p) e in
    let q = ap (λ (x : Option PacketType). read_typed x 98 (drop 98 g)) (sym t) ∙ e in
    at-most-15 g 98 sl r.0 (neighbors_fields g p) ((neighbors-accepted g 98 sl r.0 (neighbors_fields g p)).0 (p, q, refl)) (omega (arith, r.1, length-drop 98 g))
