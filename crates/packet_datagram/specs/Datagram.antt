-- A datagram: hash (32), signature (65), type (1), data.
use Rattle.std.specs.Prelude.{ℕ, Bool, false, cond, ltb, drop, get_or}
use Rattle.octets.specs.Octets.{Bytes}
use Rattle.node.specs.declared.UnixSeconds.{UnixSeconds}
use Rattle.packet_span.specs.Parts.{bytes_of}
use Rattle.packet.specs.Packets.{read_data}
use Rattle.packet_span.specs.declared.Span.{Span}
use Rattle.packet.specs.declared.Packet.{Packet}
use Rattle.packet.specs.declared.Packet.TheVariants.{Ping, Pong, FindNode, Neighbors, EnrRequest, EnrResponse}
use Rattle.packet.specs.declared.Parsed.{Parsed}
use Rattle.packet.specs.declared.Parsed.TheVariants as parsed

-- the packet by its type and data, or answer 8, 9 or 10; spans are the datagram's
unfoldable pub packet_in : Bytes → Parsed
packet_in g = read_data (get_or g 97 0) 98 (drop 98 g)

-- an expiration below the Unix time
abbrev pub expired : ℕ → UnixSeconds → Bool
expired expiration unix = ltb expiration unix.0

-- ENRResponse has no expiration
abbrev pub is_expired : Packet → UnixSeconds → Bool
is_expired (Ping p) unix = expired p.expiration unix
is_expired (Pong p) unix = expired p.expiration unix
is_expired (FindNode p) unix = expired p.expiration unix
is_expired (Neighbors p) unix = expired p.expiration unix
is_expired (EnrRequest p) unix = expired p.expiration unix
is_expired (EnrResponse p) unix = false

-- a packet in time, or its answer
abbrev pub in_time : Parsed → UnixSeconds → Parsed
in_time (parsed.Packet p) unix = cond (is_expired p unix) (parsed.Refused 11) (parsed.Packet p)
in_time (parsed.Refused number) unix = parsed.Refused number

-- the packet, or answer 8, 9, 10 or 11
abbrev pub read_at : Bytes → UnixSeconds → Parsed
read_at g unix = in_time (packet_in g) unix

-- where the record of an ENRResponse lies
abbrev pub record_span : Packet → Span
record_span (EnrResponse p) = p.«record»
record_span (Ping p) = record { start = 0; len = 0 }
record_span (Pong p) = record { start = 0; len = 0 }
record_span (FindNode p) = record { start = 0; len = 0 }
record_span (Neighbors p) = record { start = 0; len = 0 }
record_span (EnrRequest p) = record { start = 0; len = 0 }

abbrev pub span_in : Parsed → Span
span_in (parsed.Packet p) = record_span p
span_in (parsed.Refused number) = record { start = 0; len = 0 }

-- the record of an ENRResponse with its header; none of another packet
abbrev pub record_of : Bytes → Bytes
record_of g = bytes_of g (span_in (packet_in g))
