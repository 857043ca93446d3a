-- The items that are written of fields.
use Prim.Native.Nat.{◌≤◌}
use mathlib.Core.Path.{◌≡◌, refl}
use mathlib.Core.List.{List, [], map}
use native.Mathlib.Omega.{arith}
use lib.ListN.{length}
use Rattle.rlp.specs.Encoding.{Item}
use Rattle.packet_model.specs.Items.{endpoint, ping_items, pong_items, find_node_items, neighbors_items, enr_request_items, enr_response_items, enr_seq_items, node_item}
use Rattle.packet_model.specs.From.{from_bytes}
use Rattle.std.specs.Prelude.{ℕ, Option, Some, None}
use Rattle.packet.specs.Packets.{byte_of, schema_of}
use Rattle.packet.specs.Accepted.{Fields, ping, pong, find_node, neighbors, enr_request, enr_response, type_of_fields}
use Rattle.packet_bodies.specs.Parts.{body}
use Rattle.packet_bodies.specs.Writers.{content}
use Rattle.packet_laws.specs.RoundTrip.{body_of}

abbrev pub written_items : Fields → List Item
written_items (ping f) =
    ping_items 4 (endpoint (from_bytes f.from_address) f.from_udp f.from_tcp) (endpoint f.to_address f.to_udp 0) f.expiration (enr_seq_items f.enr-seq)
written_items (pong f) = pong_items (endpoint f.to_address f.to_udp 0) f.ping-hash f.expiration (enr_seq_items f.enr-seq)
written_items (find_node f) = find_node_items f.target f.expiration []
written_items (neighbors f) = neighbors_items (map node_item f.nodes) f.expiration []
written_items (enr_request f) = enr_request_items f.expiration []
written_items (enr_response f) = enr_response_items f.request-hash (content f.enr) []

pub body_is : (f : Fields) → body_of f ≡ body (byte_of (type_of_fields f)) (written_items f)
body_is (ping f) = refl
body_is (pong f) = refl
body_is (find_node f) = refl
body_is (neighbors f) = refl
body_is (enr_request f) = refl
body_is (enr_response f) = refl

seq_most : (e : Option ℕ) → length (enr_seq_items e) ≤ 1
seq_most None = omega arith
seq_most (Some n) = omega arith

-- they are all known
pub all_known : (f : Fields) → length (written_items f) ≤ length (schema_of (type_of_fields f))
all_known (ping f) = omega (arith, seq_most f.enr-seq)
all_known (pong f) = omega (arith, seq_most f.enr-seq)
all_known (find_node f) = omega arith
all_known (neighbors f) = omega arith
all_known (enr_request f) = omega arith
all_known (enr_response f) = omega arith
