-- What is claimed of the sizes of written packets.
use Rattle.std.specs.Prelude.{ℕ, ◌≤◌, ◌<◌, ◌^◌, ◌≡◌, true, List, [], ◌∷◌, length}
use Rattle.octets.specs.Octets.{Bytes}
use Rattle.rlp.specs.Encoding.{Item, encode}
use Rattle.node.specs.declared.Node.{Node}
use Rattle.node.specs.Nodes.{is_address_size}
use Rattle.packet_model.specs.Items.{uint, node, node_item, neighbors_items}
use Rattle.packet_bodies.specs.Parts.{body, nodes_in, writable_nodes}
use Rattle.packet_bodies.specs.Writers.{neighbors_body}
use Rattle.packet_bodies.specs.declared.NodeList.{NodeList}
use Rattle.packet_join.specs.Join.{can_join, datagram}
use Rattle.packet.specs.Accepted.{Fields}
use Rattle.packet_laws.specs.Bodies.{NodeFits, NodesFit, WrittenBody}

-- a body joins with a signature, and the packet does not pass 1,280 bytes
pub record Joins (signature b : Bytes) : Type 0 where
  pub joins : can_join signature b ≡ true
  pub size : length (datagram signature b) ≤ 1280

-- every body that is written joins, and "a written packet never passes 1,280 bytes"
abbrev pub WrittenJoins : Type 0
WrittenJoins = (signature b : Bytes) (f : Fields) → length signature ≡ 65 → WrittenBody b f → Joins signature b

-- items of n bytes each
abbrev pub AllOf : ℕ → List Item → Type 0
AllOf n [] = Unit {0}
AllOf n (i ∷ is) = (length (encode i) ≡ n) × AllOf n is

-- document 01's sizes (P11): twelve largest nodes make a packet of 1,205 bytes, and thirteen would make one of 1,296
pub record ReplySizes : Type 0 where
  pub twelve : (signature : Bytes) (ns : List Item) (x : ℕ) → length signature ≡ 65 → AllOf 91 ns → length ns ≡ 12 → length (encode (uint x)) ≡ 9
      → length (datagram signature (body 4 (neighbors_items ns x []))) ≡ 1205
  pub thirteen : (signature : Bytes) (ns : List Item) (x : ℕ) → length signature ≡ 65 → AllOf 91 ns → length ns ≡ 13 → length (encode (uint x)) ≡ 9
      → length (datagram signature (body 4 (neighbors_items ns x []))) ≡ 1296
  -- a node is largest with a 16-byte address and ports of two bytes, an expiration of 2 ^ 56 or more takes 9 bytes
  pub node : (a : Bytes) (u t : ℕ) (key : Bytes) → length a ≡ 16 → 256 ≤ u → u < 2 ^ 16 → 256 ≤ t → t < 2 ^ 16 → length key ≡ 64 → length (encode (node a u t key)) ≡ 91
  pub expiration : (x : ℕ) → 2 ^ 56 ≤ x → x < 2 ^ 64 → length (encode (uint x)) ≡ 9
  -- and these are the largest, so 1,205 bytes bound every Neighbors that is written
  pub node_most : (n : Node) → NodeFits n → is_address_size n.endpoint.len ≡ true → length (encode (node_item n)) ≤ 91
  pub expiration_most : (x : ℕ) → x < 2 ^ 64 → length (encode (uint x)) ≤ 9
  pub most : (signature : Bytes) (nodes : NodeList) (x : ℕ) → length signature ≡ 65 → writable_nodes nodes ≡ true → NodesFit (nodes_in nodes) → x < 2 ^ 64
      → length (datagram signature (neighbors_body nodes x)) ≤ 1205
