-- The fields of the six packets as numbers and byte strings, and what data that encodes them begins with.
use Rattle.std.specs.Prelude.{ℕ, ◌≤◌, ◌<◌, ◌^◌, ◌≡◌, List, [], ◌∷◌, Option, Some, None, map, length}
use Rattle.octets.specs.Octets.{Bytes}
use Rattle.rlp.specs.Encoding.{Item, list, encode}
use Rattle.packet_model.specs.Items.{uint, endpoint, node_item, ping_items, pong_items, find_node_items, neighbors_items, enr_request_items, enr_response_items}
use Rattle.std.specs.Prelude.{Option, Some, None}
use Rattle.packet_model.specs.From.{From, unknown, known, from_bytes}
use Rattle.packet_schema.specs.Shapes.{IsEndpoint, IsSender, Begins}
use Rattle.node.specs.declared.Node.{Node}
use Rattle.node.specs.Nodes.{address_of}
use Rattle.packet_span.specs.Parts.{bytes_of}
use Rattle.packet_span.specs.declared.Span.{Span}
use Rattle.packet_fields.specs.Spans.{padded, nodes_of}
use Rattle.packet.specs.declared.PacketType.{PacketType}
use Rattle.packet.specs.declared.PacketType.TheVariants as type
use Rattle.packet.specs.declared.Packet.{Packet}
use Rattle.packet.specs.declared.Packet.TheVariants as packet
use Rattle.packet.specs.declared.Ping.{Ping}
use Rattle.packet.specs.declared.Pong.{Pong}
use Rattle.packet.specs.declared.FindNode.{FindNode}
use Rattle.packet.specs.declared.Neighbors.{Neighbors}
use Rattle.packet.specs.declared.EnrRequest.{EnrRequest}
use Rattle.packet.specs.declared.EnrResponse.{EnrResponse}

-- an enr-seq, and items after it that are ignored; none where it is absent
abbrev pub trailing : Option ℕ → List Item → List Item
trailing None more = []
trailing (Some n) more = uint n ∷ more

abbrev pub SeqFits : Option ℕ → Type 0
SeqFits None = Unit {0}
SeqFits (Some n) = n < 2 ^ 64

-- ---- 1 Ping

-- the address in `from`, of the datagram g
abbrev pub from_of : Bytes → Option Span → From
from_of g None = unknown
from_of g (Some span) = known (bytes_of g span)

pub record PingFields : Type 0 where
  pub version : ℕ
  pub from_address : From
  pub from_udp : ℕ
  pub from_tcp : ℕ
  pub to_address : Bytes
  pub to_udp : ℕ
  pub expiration : ℕ
  pub enr-seq : Option ℕ

-- the fields of a packet in the datagram g
abbrev pub ping_fields : Bytes → Ping → PingFields
ping_fields g p =
    record {
      version = p.version;
      from_address = from_of g p.from.address;
      from_udp = p.from.udp;
      from_tcp = p.from.tcp;
      to_address = bytes_of g p.to.address;
      to_udp = p.to.udp;
      expiration = p.expiration;
      enr-seq = p.enr_seq;
    }

-- data that begins with the encoding of these fields
pub record PingEncoded (d : Bytes) (f : PingFields) : Type 0 where
  pub to_tcp : ℕ
  pub more : List Item
  pub begins : Begins d (ping_items f.version (endpoint (from_bytes f.from_address) f.from_udp f.from_tcp) (endpoint f.to_address f.to_udp to_tcp) f.expiration (trailing f.enr-seq more))
  pub version_fits : f.version < 2 ^ 64
  pub from_good : IsSender f.from_address f.from_udp f.from_tcp
  pub to_good : IsEndpoint f.to_address f.to_udp to_tcp
  pub expiration_fits : f.expiration < 2 ^ 64
  pub enr_seq_fits : SeqFits f.enr-seq

-- ---- 2 Pong

pub record PongFields : Type 0 where
  pub to_address : Bytes
  pub to_udp : ℕ
  pub ping-hash : Bytes
  pub expiration : ℕ
  pub enr-seq : Option ℕ

abbrev pub pong_fields : Bytes → Pong → PongFields
pong_fields g p =
    record {
      to_address = bytes_of g p.to.address;
      to_udp = p.to.udp;
      ping-hash = bytes_of g p.ping_hash;
      expiration = p.expiration;
      enr-seq = p.enr_seq;
    }

pub record PongEncoded (d : Bytes) (f : PongFields) : Type 0 where
  pub to_tcp : ℕ
  pub more : List Item
  pub begins : Begins d (pong_items (endpoint f.to_address f.to_udp to_tcp) f.ping-hash f.expiration (trailing f.enr-seq more))
  pub to_good : IsEndpoint f.to_address f.to_udp to_tcp
  pub hash_sized : length f.ping-hash ≡ 32
  pub expiration_fits : f.expiration < 2 ^ 64
  pub enr_seq_fits : SeqFits f.enr-seq

-- ---- 3 FindNode

pub record FindNodeFields : Type 0 where
  pub target : Bytes
  pub expiration : ℕ

abbrev pub find_node_fields : Bytes → FindNode → FindNodeFields
find_node_fields g p = record { target = bytes_of g p.target; expiration = p.expiration }

pub record FindNodeEncoded (d : Bytes) (f : FindNodeFields) : Type 0 where
  pub more : List Item
  pub begins : Begins d (find_node_items f.target f.expiration more)
  pub target_sized : length f.target ≡ 64
  pub expiration_fits : f.expiration < 2 ^ 64

-- ---- 4 Neighbors

pub record NeighborsFields : Type 0 where
  pub nodes : List Node
  pub expiration : ℕ

abbrev pub neighbors_fields : Bytes → Neighbors → NeighborsFields
neighbors_fields g p = record { nodes = nodes_of (bytes_of g p.nodes); expiration = p.expiration }

-- the address of a node, which is padded with zeros
pub record NodeGood (n : Node) : Type 0 where
  pub good : IsEndpoint (address_of n.endpoint) n.endpoint.udp n.endpoint.tcp
  pub len : n.endpoint.len ≡ length (address_of n.endpoint)
  pub address : n.endpoint.address ≡ padded 16 (address_of n.endpoint)
  pub key_sized : length n.key ≡ 64

abbrev pub NodesGood : List Node → Type 0
NodesGood [] = Unit {0}
NodesGood (n ∷ ns) = NodeGood n × NodesGood ns

pub record NeighborsEncoded (d : Bytes) (f : NeighborsFields) : Type 0 where
  pub more : List Item
  pub begins : Begins d (neighbors_items (map node_item f.nodes) f.expiration more)
  pub nodes_good : NodesGood f.nodes
  pub expiration_fits : f.expiration < 2 ^ 64

-- ---- 5 ENRRequest

pub record EnrRequestFields : Type 0 where
  pub expiration : ℕ

abbrev pub enr_request_fields : EnrRequest → EnrRequestFields
enr_request_fields p = record { expiration = p.expiration }

pub record EnrRequestEncoded (d : Bytes) (f : EnrRequestFields) : Type 0 where
  pub more : List Item
  pub begins : Begins d (enr_request_items f.expiration more)
  pub expiration_fits : f.expiration < 2 ^ 64

-- ---- 6 ENRResponse

-- the record with its header
pub record EnrResponseFields : Type 0 where
  pub request-hash : Bytes
  pub enr : Bytes

abbrev pub enr_response_fields : Bytes → EnrResponse → EnrResponseFields
enr_response_fields g p = record { request-hash = bytes_of g p.request_hash; enr = bytes_of g p.«record» }

pub record EnrResponseEncoded (d : Bytes) (f : EnrResponseFields) : Type 0 where
  pub content : Bytes
  pub more : List Item
  pub begins : Begins d (enr_response_items f.request-hash content more)
  pub enr_is : f.enr ≡ encode (list content)
  pub hash_sized : length f.request-hash ≡ 32
  pub enr_sized : length f.enr ≤ 300

-- ---- the six together

pub data Fields : Type 0 where
  ping : PingFields → Fields
  pong : PongFields → Fields
  find_node : FindNodeFields → Fields
  neighbors : NeighborsFields → Fields
  enr_request : EnrRequestFields → Fields
  enr_response : EnrResponseFields → Fields

abbrev pub type_of_fields : Fields → PacketType
type_of_fields (ping f) = type.Ping
type_of_fields (pong f) = type.Pong
type_of_fields (find_node f) = type.FindNode
type_of_fields (neighbors f) = type.Neighbors
type_of_fields (enr_request f) = type.EnrRequest
type_of_fields (enr_response f) = type.EnrResponse

-- the fields of a packet in the datagram g
abbrev pub fields_of : Bytes → Packet → Fields
fields_of g (packet.Ping p) = ping (ping_fields g p)
fields_of g (packet.Pong p) = pong (pong_fields g p)
fields_of g (packet.FindNode p) = find_node (find_node_fields g p)
fields_of g (packet.Neighbors p) = neighbors (neighbors_fields g p)
fields_of g (packet.EnrRequest p) = enr_request (enr_request_fields p)
fields_of g (packet.EnrResponse p) = enr_response (enr_response_fields g p)

-- data that begins with the encoding of these fields
abbrev pub Encoded : Bytes → Fields → Type 0
Encoded d (ping f) = PingEncoded d f
Encoded d (pong f) = PongEncoded d f
Encoded d (find_node f) = FindNodeEncoded d f
Encoded d (neighbors f) = NeighborsEncoded d f
Encoded d (enr_request f) = EnrRequestEncoded d f
Encoded d (enr_response f) = EnrResponseEncoded d f
