-- The six packets of the discv4 wire protocol as RLP items: what the data of a packet with given fields is. `more` are the items
-- that may follow the fields: Ping's and Pong's optional enr-seq, and those that a reader ignores (EIP-8).
use Rattle.std.specs.Prelude.{ℕ, List, [], ◌∷◌, map, Option, Some, None}
use Rattle.octets.specs.Octets.{Bytes}
use Rattle.rlp.specs.Numbers.{uint_bytes}
use Rattle.rlp.specs.Encoding.{Item, string, list, encode, encodes}
use Rattle.node.specs.declared.Node.{Node}
use Rattle.node.specs.Nodes.{address_of}

-- packet data: one list of items
abbrev pub data_of : List Item → Bytes
data_of is = encode (list (encodes is))

-- an integer
abbrev pub uint : ℕ → Item
uint n = string (uint_bytes n)

-- an endpoint: address, UDP port, TCP port
abbrev pub endpoint : Bytes → ℕ → ℕ → Item
endpoint address udp tcp = list (encodes (string address ∷ uint udp ∷ uint tcp ∷ []))

-- a node: an endpoint's items and the key
abbrev pub node : Bytes → ℕ → ℕ → Bytes → Item
node address udp tcp key = list (encodes (string address ∷ uint udp ∷ uint tcp ∷ string key ∷ []))

-- a node record as an item
abbrev pub node_item : Node → Item
node_item n = node (address_of n.endpoint) n.endpoint.udp n.endpoint.tcp n.key

-- the optional enr-seq of Ping and Pong
abbrev pub enr_seq_items : Option ℕ → List Item
enr_seq_items None = []
enr_seq_items (Some n) = uint n ∷ []

-- 1 Ping: version, from, to, expiration
abbrev pub ping_items : ℕ → Item → Item → ℕ → List Item → List Item
ping_items version from to expiration more = uint version ∷ from ∷ to ∷ uint expiration ∷ more

-- 2 Pong: to, ping-hash, expiration
abbrev pub pong_items : Item → Bytes → ℕ → List Item → List Item
pong_items to hash expiration more = to ∷ string hash ∷ uint expiration ∷ more

-- 3 FindNode: target, expiration
abbrev pub find_node_items : Bytes → ℕ → List Item → List Item
find_node_items target expiration more = string target ∷ uint expiration ∷ more

-- 4 Neighbors: nodes, expiration
abbrev pub neighbors_items : List Item → ℕ → List Item → List Item
neighbors_items nodes expiration more = list (encodes nodes) ∷ uint expiration ∷ more

-- 5 ENRRequest: expiration
abbrev pub enr_request_items : ℕ → List Item → List Item
enr_request_items expiration more = uint expiration ∷ more

-- 6 ENRResponse: request-hash, record; a record is a list, by the bytes of its items
abbrev pub enr_response_items : Bytes → Bytes → List Item → List Item
enr_response_items hash content more = string hash ∷ list content ∷ more
