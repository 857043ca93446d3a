-- What the writers make of bytes is bytes.
use Prim.Native.Nat.{ℕ, zero, suc, ◌≤◌, ◌<◌, ◌^◌}
use mathlib.Core.Path.{sym, ap, subst}
use mathlib.Core.List.{List, [], ◌∷◌, map}
use native.Mathlib.Decide.{dec_lt}
use native.Mathlib.Omega.{arith}
use lib.ListN.{length}
use Rattle.octets.specs.Octets.{Bytes, IsBytes}
use Rattle.octets.proofs.Laws.{bytes_drop, bytes_take, bytes_append, bytes_big_endian}
use Rattle.node.specs.declared.Node.{Node}
use Rattle.node.specs.Nodes.{address_of}
use Rattle.rlp.specs.Numbers.{width, uint_bytes}
use Rattle.rlp.specs.Encoding.{Item, string, list, header, is_plain, encode, encodes, payload_of, prefix, Small}
use Rattle.rlp.specs.Reading.{head}
use Rattle.rlp.proofs.Cases.{by_cases}
use Rattle.rlp.proofs.Numbers.{uint_bound}
use Rattle.rlp.proofs.Writing.{header_short, header-long}
use Rattle.rlp.proofs.Encoding.{encode_is, small-first, small-rest}
use Rattle.packet_model.specs.Items.{data_of, uint, endpoint, enr_seq_items, node_item}
use Rattle.packet_model.specs.From.{from_bytes}
use Rattle.std.specs.Prelude.{Option, Some, None}
use Rattle.packet.specs.Packets.{byte_of}
use Rattle.packet.specs.Accepted.{Fields, ping, pong, find_node, neighbors, enr_request, enr_response, type_of_fields}
use Rattle.packet.specs.declared.PacketType.{PacketType}
use Rattle.packet.specs.declared.PacketType.TheVariants as type
use Rattle.packet_bodies.specs.Parts.{body}
use Rattle.packet_bodies.specs.Writers.{skip_of}
use Rattle.packet_laws.specs.RoundTrip.{Writable, NodesAreBytes, AreBytes, BodiesAreBytes}
use Rattle.packet_laws.proofs.Items.{written_items, body_is}
use Rattle.packet_laws.proofs.Sizes.{body-length, size_of}

-- ---- an item

bytes_none : IsBytes []
bytes_none i = omega arith

bytes_cons : (b : ℕ) (s : Bytes) → b < 256 → IsBytes s → IsBytes (b ∷ s)
bytes_cons b s h bs zero = h
bytes_cons b s h bs (suc i) = bs i

uint_is_bytes : (n : ℕ) → IsBytes (uint_bytes n)
uint_is_bytes n = bytes_big_endian (width n) n

header_bytes : (base n : ℕ) → base ≤ 0xc0 → n < 2 ^ 64 → IsBytes (header base n)
header_bytes base n hb h = elim (dec_lt n 56) [
  | yes l ↦ subst IsBytes (sym (header_short base n l)) (bytes_cons _ [] (omega arith) bytes_none)
  | no l ↦ subst IsBytes (sym (header-long base n (omega arith))) (bytes_cons _ (uint_bytes n) (omega (arith, uint_bound n h)) (uint_is_bytes n))
]

prefix_bytes : (i : Item) → length (payload_of i) < 2 ^ 64 → IsBytes (prefix i)
unfolding prefix
prefix_bytes (string s) h = by_cases IsBytes (is_plain s) (λ _. bytes_none) (λ _. header_bytes 0x80 (length s) (omega arith) h)
prefix_bytes (list p) h = header_bytes 0xc0 (length p) (omega arith) h

pub encode_bytes : (i : Item) → length (payload_of i) < 2 ^ 64 → IsBytes (payload_of i) → IsBytes (encode i)
encode_bytes i h b = subst IsBytes (sym (encode_is i)) (bytes_append (prefix i) (payload_of i) (prefix_bytes i h) b)

-- ---- items, whose payloads are bytes where a header can say their size

abbrev OfBytes : List Item → Type 0
OfBytes [] = Unit {0}
OfBytes (i ∷ is) = (length (payload_of i) < 2 ^ 64 → IsBytes (payload_of i)) × OfBytes is

encodes_bytes : (is : List Item) → Small is → OfBytes is → IsBytes (encodes is)
encodes_bytes [] small b = bytes_none
encodes_bytes (i ∷ is) small b =
    let h = small-first i is small in
    bytes_append (encode i) (encodes is) (encode_bytes i h (b.0 h)) (encodes_bytes is (small-rest i is small) b.1)

endpoint_bytes : (a : Bytes) (u t : ℕ) → IsBytes a → length (payload_of (endpoint a u t)) < 2 ^ 64 → IsBytes (payload_of (endpoint a u t))
endpoint_bytes a u t ba h = encodes_bytes (string a ∷ uint u ∷ uint t ∷ []) h ((λ _. ba), ((λ _. uint_is_bytes u), ((λ _. uint_is_bytes t), tt)))

nodes_bytes : (ns : List Node) → NodesAreBytes ns → OfBytes (map node_item ns)
nodes_bytes [] b = tt
nodes_bytes (n ∷ ns) b =
    let e = n.endpoint in (
      (λ h. encodes_bytes (string (address_of e) ∷ uint e.udp ∷ uint e.tcp ∷ string n.key ∷ []) h
          ((λ _. bytes_take e.len e.address b.0.1), ((λ _. uint_is_bytes e.udp), ((λ _. uint_is_bytes e.tcp), ((λ _. b.0.0), tt))))),
      nodes_bytes ns b.1,
    )

last_bytes : (x : ℕ) (e : Option ℕ) → OfBytes (uint x ∷ enr_seq_items e)
last_bytes x None = ((λ _. uint_is_bytes x), tt)
last_bytes x (Some n) = ((λ _. uint_is_bytes x), ((λ _. uint_is_bytes n), tt))

-- ---- a body

body_bytes : (kind : ℕ) (is : List Item) → kind < 256 → length (body kind is) ≤ 1108 → OfBytes is → IsBytes (body kind is)
body_bytes kind is k l b =
    let small : Small is = omega (arith, body-length kind is) in
    bytes_cons kind (data_of is) k (encode_bytes (list (encodes is)) small (encodes_bytes is small b))

-- the payloads of the items that are written of fields
items_bytes : (f : Fields) → Writable f → AreBytes f → OfBytes (written_items f)
items_bytes (ping f) w b = (
  (λ _. uint_is_bytes 4),
  (
    endpoint_bytes (from_bytes f.from_address) f.from_udp f.from_tcp b.0,
    (endpoint_bytes f.to_address f.to_udp 0 b.1, last_bytes f.expiration f.enr-seq),
  ),
)
items_bytes (pong f) w b = (endpoint_bytes f.to_address f.to_udp 0 b.0, ((λ _. b.1), last_bytes f.expiration f.enr-seq))
items_bytes (find_node f) w b = ((λ _. b), ((λ _. uint_is_bytes f.expiration), tt))
items_bytes (neighbors f) w b = ((λ h. encodes_bytes (map node_item f.nodes) h (nodes_bytes f.nodes b)), ((λ _. uint_is_bytes f.expiration), tt))
items_bytes (enr_request f) w b = ((λ _. uint_is_bytes f.expiration), tt)
items_bytes (enr_response f) w b = ((λ _. b), ((λ _. bytes_drop (skip_of (head f.enr)) f.enr w.enr.bytes), tt))

type_small : (t : PacketType) → byte_of t < 256
type_small type.Ping = omega arith
type_small type.Pong = omega arith
type_small type.FindNode = omega arith
type_small type.Neighbors = omega arith
type_small type.EnrRequest = omega arith
type_small type.EnrResponse = omega arith

pub bodies_are_bytes : BodiesAreBytes
bodies_are_bytes f w b =
    subst IsBytes (sym (body_is f))
    (body_bytes (byte_of (type_of_fields f)) (written_items f) (type_small (type_of_fields f)) (omega (arith, size_of f w, ap length (body_is f))) (items_bytes f w b))
