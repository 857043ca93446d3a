-- What is written: the bodies of the six packets.
use Rattle.std.specs.Prelude.{ℕ, ◌+◌, Bool, false, ◌&&◌, [], Option, Some, None, eqb, leb, length, drop}
use Rattle.node.specs.Nodes.{is_address}
use Rattle.octets.specs.Octets.{Bytes}
use Rattle.rlp.specs.Reading.{head}
use Rattle.rlp.specs.declared.Item as rlp
use Rattle.packet_model.specs.Items.{endpoint, ping_items, pong_items, find_node_items, neighbors_items, enr_request_items, enr_response_items, enr_seq_items}
use Rattle.packet_model.specs.From.{is_sender_address}
use Rattle.packet_bodies.specs.Parts.{body, node_items}
use Rattle.packet_bodies.specs.declared.NodeList.{NodeList}

-- 1 Ping: version 4, the third item of `to` 0; the address in `from` is empty where it is unknown
abbrev pub can_ping : Bytes → Bytes → Bool
can_ping from to = is_sender_address from && is_address to

abbrev pub ping_body : Bytes → ℕ → ℕ → Bytes → ℕ → ℕ → Option ℕ → Bytes
ping_body from from_udp_port from_tcp_port to to_udp_port expiration e =
    body 1 (ping_items 4 (endpoint from from_udp_port from_tcp_port) (endpoint to to_udp_port 0) expiration (enr_seq_items e))

-- 2 Pong: the third item of `to` 0
abbrev pub can_pong : Bytes → Bytes → Bool
can_pong to hash = is_address to && eqb (length hash) 32

abbrev pub pong_body : Bytes → ℕ → Bytes → ℕ → Option ℕ → Bytes
pong_body to to_udp_port hash expiration e = body 2 (pong_items (endpoint to to_udp_port 0) hash expiration (enr_seq_items e))

-- 3 FindNode
abbrev pub can_find_node : Bytes → Bool
can_find_node target = eqb (length target) 64

abbrev pub find_node_body : Bytes → ℕ → Bytes
find_node_body target expiration = body 3 (find_node_items target expiration [])

-- 4 Neighbors: which lists can be written is `writable_nodes`
abbrev pub neighbors_body : NodeList → ℕ → Bytes
neighbors_body nodes expiration = body 4 (neighbors_items (node_items nodes) expiration [])

-- 5 ENRRequest: always writable
abbrev pub enr_request_body : ℕ → Bytes
enr_request_body expiration = body 5 (enr_request_items expiration [])

-- 6 ENRResponse: a record is one whole list of at most 300 bytes with its header; its inside is not examined
abbrev pub is_list_of : Option rlp.Item → ℕ → Bool
is_list_of (Some i) n = i.list && eqb (i.skip + i.size) n
is_list_of None n = false

abbrev pub is_record : Bytes → Bool
is_record r = leb (length r) 300 && is_list_of (head r) (length r)

-- the bytes after a header
abbrev pub skip_of : Option rlp.Item → ℕ
skip_of (Some i) = i.skip
skip_of None = 0

abbrev pub content : Bytes → Bytes
content r = drop (skip_of (head r)) r

abbrev pub can_enr_response : Bytes → Bytes → Bool
can_enr_response hash r = eqb (length hash) 32 && is_record r

abbrev pub enr_response_body : Bytes → Bytes → Bytes
enr_response_body hash r = body 6 (enr_response_items hash (content r) [])
