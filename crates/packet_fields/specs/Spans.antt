-- Items of a list's payload by their number: where they lie, and their values.
use Rattle.std.specs.Prelude.{ℕ, ◌+◌, cond, List, [], Option, Some, None, map, leb, ltb, drop, length, get_or, replicate}
use Rattle.std.specs.Option.{unwrap_or}
use Rattle.octets.specs.Octets.{Bytes, store}
use Rattle.rlp.specs.Encoding.{Item, string, payload_of}
use Rattle.rlp.specs.Reading.{head, extent, offset, count, uint_of}
use Rattle.rlp.specs.declared.Item as read
use Rattle.packet_kinds.specs.Payload.{items_of}
use Rattle.node.specs.declared.Node.{Node}
use Rattle.std.specs.Prelude.{Option, Some, None}
use Rattle.packet_span.specs.declared.Span.{Span}

-- the payload of the item whose header is at `at`
abbrev pub payload_span : Option read.Item → ℕ → Span
payload_span (Some i) at = record { start = at + i.skip; len = i.size }
payload_span None at = record { start = at; len = 0 }

-- the payload of item n of the payload s
unfoldable pub span_of : ℕ → Bytes → Span
span_of n s = payload_span (head (drop (offset n s) s)) (offset n s)

-- item n of the payload s with its header
unfoldable pub item_span : ℕ → Bytes → Span
item_span n s = record { start = offset n s; len = extent (head (drop (offset n s) s)) }

-- item n of the payload s; the empty string where there is none
abbrev pub item_at : ℕ → Bytes → Item
item_at n s = get_or (items_of s) n (string [])

-- the integer that was read; 0 where it is none
abbrev pub value_of : Option ℕ → ℕ
value_of u = unwrap_or u 0

-- the integer that item n of the payload s is; 0 where it is none
unfoldable pub uint_item : ℕ → Bytes → ℕ
uint_item n s = value_of (uint_of (payload_of (item_at n s)))

-- the same where it fits 16 bits, else 0
unfoldable pub port_item : ℕ → Bytes → ℕ
port_item n s = cond (leb (uint_item n s) 65535) (uint_item n s) 0

-- the integer that item n of the payload s is, where there is an item n
unfoldable pub enr_seq_item : ℕ → Bytes → Option ℕ
enr_seq_item n s = cond (ltb n (count s)) (Some (uint_item n s)) None

-- at most n bytes
abbrev pub fitting : ℕ → Bytes → Bytes
fitting n s = cond (leb (length s) n) s []

-- n bytes: those of s, and then zeros
unfoldable pub padded : ℕ → Bytes → Bytes
padded n s = store (replicate n 0) 0 (fitting n s)

-- the node of a payload: address, UDP port, TCP port, key
unfoldable pub node_of : Bytes → Node
node_of p =
    record {
      key = padded 64 (payload_of (item_at 3 p));
      endpoint =
          record {
            len = length (fitting 16 (payload_of (item_at 0 p)));
            address = padded 16 (payload_of (item_at 0 p));
            udp = port_item 1 p;
            tcp = port_item 2 p;
          };
    }

-- the nodes of a payload
abbrev pub nodes_of : Bytes → List Node
nodes_of s = map (λ (i : Item). node_of (payload_of i)) (items_of s)

-- node n of a payload; a node of zeros where there is none
abbrev pub node_at : ℕ → Bytes → Node
node_at n s = get_or (nodes_of s) n (node_of [])
