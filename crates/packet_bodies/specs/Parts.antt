-- What the writers of packets share: which values can be written, and the items of nodes.
use Rattle.std.specs.Prelude.{ℕ, Bool, true, ◌&&◌, List, [], ◌∷◌, map, leb, take, Option}
use Rattle.node.specs.Nodes.{is_address_size}
use Rattle.octets.specs.Octets.{Bytes}
use Rattle.rlp.specs.Encoding.{Item, string}
use Rattle.packet_model.specs.Items.{data_of, uint, node_item, enr_seq_items}
use Rattle.node.specs.declared.Node.{Node}
use Rattle.packet_bodies.specs.declared.NodeList.{NodeList}

-- a packet's body: its type and its data
abbrev pub body : ℕ → List Item → Bytes
body kind items = kind ∷ data_of items

-- the items of an endpoint
abbrev pub endpoint_items : Bytes → ℕ → ℕ → List Item
endpoint_items address udp tcp = string address ∷ uint udp ∷ uint tcp ∷ []

-- the last items of Ping and Pong
abbrev pub last_items : ℕ → Option ℕ → List Item
last_items expiration e = uint expiration ∷ enr_seq_items e

abbrev pub nodes_in : NodeList → List Node
nodes_in l = take l.len l.nodes

abbrev pub node_items : NodeList → List Item
node_items l = map node_item (nodes_in l)

abbrev pub have_addresses : List Node → Bool
have_addresses [] = true
have_addresses (n ∷ ns) = is_address_size n.endpoint.len && have_addresses ns

-- at most 12 nodes, each with an address
abbrev pub writable_nodes : NodeList → Bool
writable_nodes l = leb l.len 12 && have_addresses (nodes_in l)
