-- The fields of a packet as numbers in fixed places: type; version; expiration; enr-seq: present, value; from: start, length, UDP, TCP;
-- to: start, length, UDP; hash: start, length; target: start, length; nodes: start, length; record: start, length. A field that the packet
-- does not have is 0, and so are the start and the length of an unknown `from`.
use Rattle.std.specs.Prelude.{ℕ, List, [], ◌∷◌, Option, Some, None}
use Rattle.packet.specs.declared.Packet.{Packet}
use Rattle.packet.specs.declared.Packet.TheVariants as packet
use Rattle.packet.specs.declared.Parsed.{Parsed}
use Rattle.packet.specs.declared.Parsed.TheVariants as parsed
use Rattle.packet_span.specs.declared.Span.{Span}
use Rattle.packet.specs.declared.Ping.{Ping}
use Rattle.packet.specs.declared.Pong.{Pong}
use Rattle.packet.specs.declared.FindNode.{FindNode}
use Rattle.packet.specs.declared.Neighbors.{Neighbors}
use Rattle.packet.specs.declared.EnrRequest.{EnrRequest}
use Rattle.packet.specs.declared.EnrResponse.{EnrResponse}

abbrev pub seq_present : Option ℕ → ℕ
seq_present None = 0
seq_present (Some n) = 1

abbrev pub seq_value : Option ℕ → ℕ
seq_value None = 0
seq_value (Some n) = n

-- an unknown address starts at 0 and has no bytes
abbrev pub from_start : Option Span → ℕ
from_start None = 0
from_start (Some span) = span.start

abbrev pub from_len : Option Span → ℕ
from_len None = 0
from_len (Some span) = span.len

abbrev pub flat_ping : Ping → List ℕ
flat_ping p =
    1 ∷ p.version ∷ p.expiration ∷ seq_present p.enr_seq ∷ seq_value p.enr_seq
    ∷ from_start p.from.address ∷ from_len p.from.address ∷ p.from.udp ∷ p.from.tcp
    ∷ p.to.address.start ∷ p.to.address.len ∷ p.to.udp
    ∷ 0 ∷ 0 ∷ 0 ∷ 0 ∷ 0 ∷ 0 ∷ 0 ∷ 0 ∷ []

abbrev pub flat_pong : Pong → List ℕ
flat_pong p =
    2 ∷ 0 ∷ p.expiration ∷ seq_present p.enr_seq ∷ seq_value p.enr_seq
    ∷ 0 ∷ 0 ∷ 0 ∷ 0
    ∷ p.to.address.start ∷ p.to.address.len ∷ p.to.udp
    ∷ p.ping_hash.start ∷ p.ping_hash.len ∷ 0 ∷ 0 ∷ 0 ∷ 0 ∷ 0 ∷ 0 ∷ []

abbrev pub flat_find_node : FindNode → List ℕ
flat_find_node p =
    3 ∷ 0 ∷ p.expiration ∷ 0 ∷ 0 ∷ 0 ∷ 0 ∷ 0 ∷ 0 ∷ 0 ∷ 0 ∷ 0 ∷ 0 ∷ 0
    ∷ p.target.start ∷ p.target.len ∷ 0 ∷ 0 ∷ 0 ∷ 0 ∷ []

abbrev pub flat_neighbors : Neighbors → List ℕ
flat_neighbors p =
    4 ∷ 0 ∷ p.expiration ∷ 0 ∷ 0 ∷ 0 ∷ 0 ∷ 0 ∷ 0 ∷ 0 ∷ 0 ∷ 0 ∷ 0 ∷ 0 ∷ 0 ∷ 0
    ∷ p.nodes.start ∷ p.nodes.len ∷ 0 ∷ 0 ∷ []

abbrev pub flat_enr_request : EnrRequest → List ℕ
flat_enr_request p = 5 ∷ 0 ∷ p.expiration ∷ 0 ∷ 0 ∷ 0 ∷ 0 ∷ 0 ∷ 0 ∷ 0 ∷ 0 ∷ 0 ∷ 0 ∷ 0 ∷ 0 ∷ 0 ∷ 0 ∷ 0 ∷ 0 ∷ 0 ∷ []

abbrev pub flat_enr_response : EnrResponse → List ℕ
flat_enr_response p =
    6 ∷ 0 ∷ 0 ∷ 0 ∷ 0 ∷ 0 ∷ 0 ∷ 0 ∷ 0 ∷ 0 ∷ 0 ∷ 0
    ∷ p.request_hash.start ∷ p.request_hash.len ∷ 0 ∷ 0 ∷ 0 ∷ 0 ∷ p.«record».start ∷ p.«record».len ∷ []

abbrev pub flat_packet : Packet → List ℕ
flat_packet (packet.Ping p) = flat_ping p
flat_packet (packet.Pong p) = flat_pong p
flat_packet (packet.FindNode p) = flat_find_node p
flat_packet (packet.Neighbors p) = flat_neighbors p
flat_packet (packet.EnrRequest p) = flat_enr_request p
flat_packet (packet.EnrResponse p) = flat_enr_response p

-- the answer number of reading: 0, or 8, 9 or 10
abbrev pub read_number : Parsed → ℕ
read_number (parsed.Packet p) = 0
read_number (parsed.Refused n) = n

-- the lent places after reading: a refused packet leaves them
abbrev pub fields_after : Parsed → List ℕ → List ℕ
fields_after (parsed.Packet p) old = flat_packet p
fields_after (parsed.Refused n) old = old
