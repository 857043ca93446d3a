-- What the writers write of a packet's fields, that it reads back as them, and that a packet of the written form is written anew as it was.
use Rattle.std.specs.Prelude.{ℕ, ◌≤◌, ◌<◌, ◌^◌, ◌≡◌, true, List, [], ◌∷◌, map, length, drop}
use Rattle.octets.specs.Octets.{Bytes, IsBytes, Slice}
use Rattle.node.specs.declared.Node.{Node}
use Rattle.rlp.specs.Reading.{head, extent, count}
use Rattle.packet_model.specs.Items.{neighbors_items, node_item}
use Rattle.packet_model.specs.From as sender
use Rattle.packet_schema.specs.Shapes.{IsEndpoint, IsSender}
use Rattle.packet_span.specs.Parts.{bytes_of}
use Rattle.packet_fields.specs.Spans.{span_of, port_item}
use Rattle.packet.specs.Packets.{schema_of}
use Rattle.packet.specs.Accepted.{SeqFits, PingFields, PongFields, FindNodeFields, NeighborsFields, NodesGood, EnrResponseFields, Fields, ping, pong, find_node, neighbors, enr_request, enr_response, type_of_fields}
use Rattle.packet.specs.declared.PacketType.{PacketType}
use Rattle.packet_envelope.specs.Envelope.{is_sized, hash_matches, signature_of}
use Rattle.packet_datagram.specs.Acceptance.{Reads}
use Rattle.packet_bodies.specs.Parts.{body}
use Rattle.packet_bodies.specs.Writers.{ping_body, pong_body, find_node_body, enr_request_body, can_enr_response, enr_response_body}
use Rattle.packet_join.specs.Join.{datagram}
use Rattle.packet_laws.specs.Bodies.{WrittenBody}

-- what the writers write of these fields
abbrev pub body_of : Fields → Bytes
body_of (ping f) = ping_body (sender.from_bytes f.from_address) f.from_udp f.from_tcp f.to_address f.to_udp f.expiration f.enr-seq
body_of (pong f) = pong_body f.to_address f.to_udp f.ping-hash f.expiration f.enr-seq
body_of (find_node f) = find_node_body f.target f.expiration
body_of (neighbors f) = body 4 (neighbors_items (map node_item f.nodes) f.expiration [])
body_of (enr_request f) = enr_request_body f.expiration
body_of (enr_response f) = enr_response_body f.request-hash f.enr

-- the fields that the writers take: of Ping those with version 4, of Neighbors at most 12 nodes
pub record PingWritable (f : PingFields) : Type 0 where
  pub version : f.version ≡ 4
  pub from : IsSender f.from_address f.from_udp f.from_tcp
  pub to : IsEndpoint f.to_address f.to_udp 0
  pub expiration : f.expiration < 2 ^ 64
  pub enr-seq : SeqFits f.enr-seq

pub record PongWritable (f : PongFields) : Type 0 where
  pub to : IsEndpoint f.to_address f.to_udp 0
  pub hash : length f.ping-hash ≡ 32
  pub expiration : f.expiration < 2 ^ 64
  pub enr-seq : SeqFits f.enr-seq

pub record FindNodeWritable (f : FindNodeFields) : Type 0 where
  pub target : length f.target ≡ 64
  pub expiration : f.expiration < 2 ^ 64

pub record NeighborsWritable (f : NeighborsFields) : Type 0 where
  pub few : length f.nodes ≤ 12
  pub nodes : NodesGood f.nodes
  pub expiration : f.expiration < 2 ^ 64

pub record EnrResponseWritable (f : EnrResponseFields) : Type 0 where
  pub can : can_enr_response f.request-hash f.enr ≡ true
  pub enr : Slice f.enr

abbrev pub Writable : Fields → Type 0
Writable (ping f) = PingWritable f
Writable (pong f) = PongWritable f
Writable (find_node f) = FindNodeWritable f
Writable (neighbors f) = NeighborsWritable f
Writable (enr_request f) = f.expiration < 2 ^ 64
Writable (enr_response f) = EnrResponseWritable f

-- the byte strings of the fields are bytes; a record that can be written is a slice
abbrev pub NodesAreBytes : List Node → Type 0
NodesAreBytes [] = Unit {0}
NodesAreBytes (n ∷ ns) = (IsBytes n.key × IsBytes n.endpoint.address) × NodesAreBytes ns

abbrev pub AreBytes : Fields → Type 0
AreBytes (ping f) = IsBytes (sender.from_bytes f.from_address) × IsBytes f.to_address
AreBytes (pong f) = IsBytes f.to_address × IsBytes f.ping-hash
AreBytes (find_node f) = IsBytes f.target
AreBytes (neighbors f) = NodesAreBytes f.nodes
AreBytes (enr_request f) = Unit {0}
AreBytes (enr_response f) = IsBytes f.request-hash

-- what the writers make of bytes is bytes
abbrev pub BodiesAreBytes : Type 0
BodiesAreBytes = (f : Fields) → Writable f → AreBytes f → IsBytes (body_of f)

-- ---- the form that is written, as a test of what was read

-- the payload of the data's list
abbrev pub list_in : Bytes → Bytes
list_in d = bytes_of d (span_of 0 d)

-- no byte after the list, and no item after the known ones
pub record NothingAfter (t : PacketType) (d : Bytes) : Type 0 where
  pub bytes : extent (head d) ≡ length d
  pub items : count (list_in d) ≤ length (schema_of t)

-- the TCP port of the endpoint that is item n
abbrev pub tcp_of : ℕ → Bytes → ℕ
tcp_of n s = port_item 2 (bytes_of s (span_of n s))

-- version 4, third item of `to` 0, at most 12 nodes
abbrev pub FormOf : Bytes → Fields → Type 0
FormOf s (ping f) = (f.version ≡ 4) × (tcp_of 2 s ≡ 0)
FormOf s (pong f) = tcp_of 0 s ≡ 0
FormOf s (find_node f) = Unit {0}
FormOf s (neighbors f) = length f.nodes ≤ 12
FormOf s (enr_request f) = Unit {0}
FormOf s (enr_response f) = Unit {0}

-- accepted with the fields f, in the form that is written
pub record WrittenForm (g : Bytes) (f : Fields) : Type 0 where
  pub sized : is_sized g ≡ true
  pub hash : hash_matches g ≡ true
  pub reads : Reads g f
  pub nothing_after : NothingAfter (type_of_fields f) (drop 98 g)
  pub form : FormOf (list_in (drop 98 g)) f

-- ---- round trips

-- the packet of this signature and body is accepted with the fields, in the written form, and has the signature
pub record RoundTrip (signature b : Bytes) (f : Fields) : Type 0 where
  pub form : WrittenForm (datagram signature b) f
  pub signed : signature_of (datagram signature b) ≡ signature

-- "What is written reads back as the same fields": all fields that can be written
abbrev pub RoundTrips : Type 0
RoundTrips = (signature : Bytes) → length signature ≡ 65 → IsBytes signature → (f : Fields) → Writable f → AreBytes f → RoundTrip signature (body_of f) f

-- and whatever each writer takes: a node list reads back with the bytes behind its addresses zeroed
abbrev pub WritersReadBack : Type 0
WritersReadBack = (signature : Bytes) → length signature ≡ 65 → IsBytes signature
    → (b : Bytes) (f : Fields) → WrittenBody b f → AreBytes f → RoundTrip signature b f

-- its fields can be written, and with its signature they make the same bytes
pub record Anew (g : Bytes) (f : Fields) : Type 0 where
  pub writable : Writable f
  pub same : datagram (signature_of g) (body_of f) ≡ g

-- "an accepted packet of the form the box writes, written anew with its signature, gives the same bytes"
abbrev pub WrittenAnew : Type 0
WrittenAnew = (g : Bytes) → Slice g → (f : Fields) → WrittenForm g f → Anew g f
