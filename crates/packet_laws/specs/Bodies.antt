-- The bodies that the six writers write, from values of their types, and the fields that these are.
use Rattle.std.specs.Prelude.{ℕ, ◌<◌, ◌^◌, ◌≡◌, true, List, [], ◌∷◌, map, length, Option}
use Rattle.octets.specs.Octets.{Bytes, Slice}
use Rattle.node.specs.declared.Node.{Node}
use Rattle.node.specs.Nodes.{address_of}
use Rattle.packet_model.specs.From as sender
use Rattle.packet_fields.specs.Spans.{padded}
use Rattle.packet.specs.Accepted.{SeqFits, Fields}
use Rattle.packet.specs.Accepted as fields
use Rattle.packet_bodies.specs.Parts.{nodes_in, writable_nodes}
use Rattle.packet_bodies.specs.declared.NodeList.{NodeList}
use Rattle.packet_bodies.specs.Writers.{can_ping, ping_body, can_pong, pong_body, can_find_node, find_node_body, neighbors_body, enr_request_body, can_enr_response, enr_response_body}

-- what the type of a node record says
pub record NodeFits (n : Node) : Type 0 where
  pub key : length n.key ≡ 64
  pub address : length n.endpoint.address ≡ 16
  pub udp : n.endpoint.udp < 2 ^ 16
  pub tcp : n.endpoint.tcp < 2 ^ 16

abbrev pub NodesFit : List Node → Type 0
NodesFit [] = Unit {0}
NodesFit (n ∷ ns) = NodeFits n × NodesFit ns

-- a node with the bytes behind its address zeroed
unfoldable pub pad_node : Node → Node
pad_node n =
    record {
      key = n.key;
      endpoint = record { len = n.endpoint.len; address = padded 16 (address_of n.endpoint); udp = n.endpoint.udp; tcp = n.endpoint.tcp };
    }

-- the fields of what each writer takes; a Ping is of version 4, and an empty `from` is unknown
abbrev pub ping_written : Bytes → ℕ → ℕ → Bytes → ℕ → ℕ → Option ℕ → Fields
ping_written from from_udp_port from_tcp_port to to_udp_port x e =
    fields.ping
    (record { version = 4; from_address = sender.from_said from; from_udp = from_udp_port; from_tcp = from_tcp_port; to_address = to; to_udp = to_udp_port; expiration = x; enr-seq = e })

abbrev pub pong_written : Bytes → ℕ → Bytes → ℕ → Option ℕ → Fields
pong_written to to_udp_port hash x e = fields.pong (record { to_address = to; to_udp = to_udp_port; ping-hash = hash; expiration = x; enr-seq = e })

abbrev pub find_node_written : Bytes → ℕ → Fields
find_node_written target x = fields.find_node (record { target = target; expiration = x })

abbrev pub neighbors_written : NodeList → ℕ → Fields
neighbors_written nodes x = fields.neighbors (record { nodes = map pad_node (nodes_in nodes); expiration = x })

abbrev pub enr_request_written : ℕ → Fields
enr_request_written x = fields.enr_request (record { expiration = x })

abbrev pub enr_response_written : Bytes → Bytes → Fields
enr_response_written hash r = fields.enr_response (record { request-hash = hash; enr = r })

-- a body that a writer writes, and its fields
pub data WrittenBody : Bytes → Fields → Type 0 where
  ping : (from : Bytes) (from_udp_port from_tcp_port : ℕ) (to : Bytes) (to_udp_port x : ℕ) (e : Option ℕ)
      → can_ping from to ≡ true → from_udp_port < 2 ^ 16 → from_tcp_port < 2 ^ 16 → to_udp_port < 2 ^ 16 → x < 2 ^ 64 → SeqFits e
      → WrittenBody (ping_body from from_udp_port from_tcp_port to to_udp_port x e) (ping_written from from_udp_port from_tcp_port to to_udp_port x e)
  pong : (to : Bytes) (to_udp_port : ℕ) (hash : Bytes) (x : ℕ) (e : Option ℕ)
      → can_pong to hash ≡ true → to_udp_port < 2 ^ 16 → x < 2 ^ 64 → SeqFits e → WrittenBody (pong_body to to_udp_port hash x e) (pong_written to to_udp_port hash x e)
  find_node : (target : Bytes) (x : ℕ) → can_find_node target ≡ true → x < 2 ^ 64 → WrittenBody (find_node_body target x) (find_node_written target x)
  neighbors : (nodes : NodeList) (x : ℕ) → writable_nodes nodes ≡ true → NodesFit (nodes_in nodes) → x < 2 ^ 64
      → WrittenBody (neighbors_body nodes x) (neighbors_written nodes x)
  enr_request : (x : ℕ) → x < 2 ^ 64 → WrittenBody (enr_request_body x) (enr_request_written x)
  enr_response : (hash r : Bytes) → Slice r → can_enr_response hash r ≡ true → WrittenBody (enr_response_body hash r) (enr_response_written hash r)
