-- The six packets of the discv4 wire protocol: what the data after the 98-byte head must be, and the fields that it has.
use Rattle.std.specs.Prelude.{ℕ, ◌+◌, ◌-◌, ◌^◌, cond, List, [], ◌∷◌, Option, Some, None, eqb}
use Rattle.octets.specs.Octets.{Bytes}
use Rattle.packet_schema.specs.Schema.{verdict}
use Rattle.packet_kinds.specs.declared.Kind.{Kind}
use Rattle.packet_kinds.specs.declared.Kind.TheVariants.{Uint, Endpoint, Sender, Nodes, Record}
use Rattle.packet_kinds.specs.declared.Kind.TheVariants as kind
use Rattle.packet_kinds.specs.declared.Verdict.{Verdict}
use Rattle.packet_kinds.specs.declared.Verdict.TheVariants.{Good, Wrong, Broken}
use Rattle.packet_span.specs.Parts.{bytes_of, moved}
use Rattle.packet_fields.specs.Spans.{span_of, item_span, uint_item, port_item, enr_seq_item}
use Rattle.packet.specs.declared.PacketType.{PacketType}
use Rattle.packet.specs.declared.PacketType.TheVariants as type
use Rattle.packet.specs.declared.Packet.{Packet}
use Rattle.packet.specs.declared.Packet.TheVariants as packet
use Rattle.packet.specs.declared.Parsed.{Parsed}
use Rattle.packet.specs.declared.Parsed.TheVariants as parsed
use Rattle.packet_span.specs.declared.Span.{Span}
use Rattle.packet.specs.declared.EndpointSpan.{EndpointSpan}
use Rattle.packet.specs.declared.Sender as from
use Rattle.packet.specs.declared.Recipient.{Recipient}
use Rattle.packet.specs.declared.Ping.{Ping}
use Rattle.packet.specs.declared.Pong.{Pong}
use Rattle.packet.specs.declared.FindNode.{FindNode}
use Rattle.packet.specs.declared.Neighbors.{Neighbors}
use Rattle.packet.specs.declared.EnrRequest.{EnrRequest}
use Rattle.packet.specs.declared.EnrResponse.{EnrResponse}

unfoldable pub type_of : ℕ → Option PacketType
type_of b =
    cond (eqb b 1) (Some type.Ping)
    (cond (eqb b 2) (Some type.Pong)
    (cond (eqb b 3) (Some type.FindNode)
    (cond (eqb b 4) (Some type.Neighbors)
    (cond (eqb b 5) (Some type.EnrRequest) (cond (eqb b 6) (Some type.EnrResponse) None)))))

-- the byte of each type
abbrev pub byte_of : PacketType → ℕ
byte_of type.Ping = 1
byte_of type.Pong = 2
byte_of type.FindNode = 3
byte_of type.Neighbors = 4
byte_of type.EnrRequest = 5
byte_of type.EnrResponse = 6

-- an integer of 64 bits
abbrev pub any_uint : Kind
any_uint = Uint (2 ^ 64 - 1)

-- what the items must be
abbrev pub schema_of : PacketType → List Kind
schema_of type.Ping = any_uint ∷ Sender ∷ Endpoint ∷ any_uint ∷ any_uint ∷ []
schema_of type.Pong = Endpoint ∷ kind.Bytes 32 ∷ any_uint ∷ any_uint ∷ []
schema_of type.FindNode = kind.Bytes 64 ∷ any_uint ∷ []
schema_of type.Neighbors = Nodes ∷ any_uint ∷ []
schema_of type.EnrRequest = any_uint ∷ []
schema_of type.EnrResponse = kind.Bytes 32 ∷ Record ∷ []

-- how many of them must be there: all but the enr-seq of Ping and Pong
abbrev pub required_of : PacketType → ℕ
required_of type.Ping = 4
required_of type.Pong = 3
required_of type.FindNode = 2
required_of type.Neighbors = 2
required_of type.EnrRequest = 1
required_of type.EnrResponse = 2

-- the fields of the list's payload s, which begins at `base` of the datagram

-- item n, an endpoint, by its payload e, which begins at `base` of the datagram
abbrev pub endpoint_at : ℕ → Bytes → EndpointSpan
endpoint_at base e = record { address = moved base (span_of 0 e); udp = port_item 1 e; tcp = port_item 2 e }

unfoldable pub endpoint_of : ℕ → ℕ → Bytes → EndpointSpan
endpoint_of base n s = endpoint_at (base + (span_of n s).start) (bytes_of s (span_of n s))

-- C-13: "say 'unknown' for 0"
abbrev pub said : Span → Option Span
said a = cond (eqb a.len 0) None (Some a)

-- `from`, with both ports
abbrev pub sender : EndpointSpan → from.Sender
sender e = record { address = said e.address; udp = e.udp; tcp = e.tcp }

abbrev pub sender_of : ℕ → ℕ → Bytes → from.Sender
sender_of base n s = sender (endpoint_of base n s)

-- the third item of `to` is not a field
abbrev pub recipient : EndpointSpan → Recipient
recipient e = record { address = e.address; udp = e.udp }

abbrev pub recipient_of : ℕ → ℕ → Bytes → Recipient
recipient_of base n s = recipient (endpoint_of base n s)

unfoldable pub ping_of : ℕ → Bytes → Ping
ping_of base s =
    record {
      version = uint_item 0 s;
      from = sender_of base 1 s;
      to = recipient_of base 2 s;
      expiration = uint_item 3 s;
      enr_seq = enr_seq_item 4 s;
    }

unfoldable pub pong_of : ℕ → Bytes → Pong
pong_of base s =
    record {
      to = recipient_of base 0 s;
      ping_hash = moved base (span_of 1 s);
      expiration = uint_item 2 s;
      enr_seq = enr_seq_item 3 s;
    }

unfoldable pub find_node_of : ℕ → Bytes → FindNode
find_node_of base s = record { target = moved base (span_of 0 s); expiration = uint_item 1 s }

unfoldable pub neighbors_of : ℕ → Bytes → Neighbors
neighbors_of base s = record { nodes = moved base (span_of 0 s); expiration = uint_item 1 s }

unfoldable pub enr_request_of : Bytes → EnrRequest
enr_request_of s = record { expiration = uint_item 0 s }

-- the record is handed back with its header
unfoldable pub enr_response_of : ℕ → Bytes → EnrResponse
enr_response_of base s = record { request_hash = moved base (span_of 0 s); «record» = moved base (item_span 1 s) }

abbrev pub packet_of : PacketType → ℕ → Bytes → Packet
packet_of type.Ping base s = packet.Ping (ping_of base s)
packet_of type.Pong base s = packet.Pong (pong_of base s)
packet_of type.FindNode base s = packet.FindNode (find_node_of base s)
packet_of type.Neighbors base s = packet.Neighbors (neighbors_of base s)
packet_of type.EnrRequest base s = packet.EnrRequest (enr_request_of s)
packet_of type.EnrResponse base s = packet.EnrResponse (enr_response_of base s)

abbrev pub answered : Verdict → Packet → Parsed
answered Good p = parsed.Packet p
answered Broken p = parsed.Refused 9
answered Wrong p = parsed.Refused 10

-- data d that begins at `base` of the datagram, by its packet type
unfoldable pub read_as : PacketType → ℕ → Bytes → Parsed
read_as t base d =
    answered (verdict (required_of t) (schema_of t) d) (packet_of t (base + (span_of 0 d).start) (bytes_of d (span_of 0 d)))

-- by what its type byte says
abbrev pub read_typed : Option PacketType → ℕ → Bytes → Parsed
read_typed (Some t) base d = read_as t base d
read_typed None base d = parsed.Refused 8

-- by its type byte
abbrev pub read_data : ℕ → ℕ → Bytes → Parsed
read_data b base d = read_typed (type_of b) base d
