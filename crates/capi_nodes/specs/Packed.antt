-- Nodes packed in 85 bytes each: address length 1, address 16, UDP port 2, TCP port 2, key 64; numbers big-endian.
use Rattle.std.specs.Prelude.{ℕ, ◌*◌, ◌/◌, ◌%◌, Bool, ◌&&◌, eqb, leb, length}
use Rattle.octets.specs.Octets.{Bytes, part}
use Rattle.node.specs.declared.Node.{Node}
use Rattle.entry.specs.Layout.{decode_endpoint}
use Rattle.table_model.specs.Layout.{tabulate}
use Rattle.packet_bodies.specs.Parts.{writable_nodes}
use Rattle.packet_bodies.specs.declared.NodeList.{NodeList}

abbrev pub packed_node : Bytes → Node
packed_node b = record { key = part b 21 64; endpoint = decode_endpoint (part b 0 21) }

-- node i of packed nodes
abbrev pub packed_at : Bytes → ℕ → Node
packed_at s i = packed_node (part s (i * 85) 85)

-- the nodes of the bytes
abbrev pub packed_list : Bytes → NodeList
packed_list s = record { len = length s / 85; nodes = tabulate (length s / 85) (packed_at s) }

-- whole nodes, at most sixteen
abbrev pub is_packed : Bytes → Bool
is_packed s = leb (length s) 1360 && eqb (length s % 85) 0

-- they can be written
abbrev pub can_packed : Bytes → Bool
can_packed s = is_packed s && writable_nodes (packed_list s)
