-- Why reading a Neighbors has no limit to test: "sixteen or more nodes can't fit 1,280 bytes".
use Rattle.std.specs.Prelude.{◌≤◌, ◌≡◌, true, length}
use Rattle.octets.specs.Octets.{Bytes, Slice}
use Rattle.packet_span.specs.Parts.{bytes_of}
use Rattle.packet_fields.specs.Spans.{nodes_of}
use Rattle.packet_envelope.specs.Envelope.{is_sized}
use Rattle.packet.specs.declared.Packet.TheVariants.{Neighbors}
use Rattle.packet.specs.declared.Parsed.TheVariants.{Packet}
use Rattle.packet.specs.declared.Neighbors as neighbors
use Rattle.packet_datagram.specs.Datagram.{packet_in}

-- an accepted Neighbors lists at most 15 nodes
abbrev pub NeighborsAtMost15 : Type 0
NeighborsAtMost15 =
    (g : Bytes) (p : neighbors.Neighbors) → Slice g → is_sized g ≡ true → packet_in g ≡ Packet (Neighbors p)
    → length (nodes_of (bytes_of g p.nodes)) ≤ 15
