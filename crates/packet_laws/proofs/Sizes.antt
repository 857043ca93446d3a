-- Sizes of written packets.
use Prim.Native.Nat.{ℕ, zero, suc, ◌+◌, ◌*◌, ◌≤◌, ◌<◌, ◌^◌}
use mathlib.Core.Path.{◌≡◌, ap, ◌∙◌}
use mathlib.Core.Bool.{Bool, true, ◌&&◌}
use mathlib.Core.List.{List, [], ◌∷◌, map}
use native.Mathlib.Omega.{arith}
use native.Mathlib.Decide.{dec_lt}
use lib.Dec.{eqb}
use borrow.Author.Tests.{eqb-true, eq-eqb, le-leb}
use lib.ListN.{length, length-append}
use Rattle.node.specs.Nodes.{address_of, is_address, is_address_size}
use Rattle.octets.specs.Octets.{Bytes, Slice}
use Rattle.node.specs.declared.Node.{Node}
use Rattle.rlp.specs.Encoding.{Item, list, header, encode, encodes}
use Rattle.rlp.proofs.Numbers.{length-uint, width_more, width_least}
use Rattle.rlp.proofs.Writing.{header_short, header-long, encode_list, uint_size_small, uint_size_large}
use Rattle.packet_model.specs.Items.{uint, endpoint, ping_items, pong_items, find_node_items, neighbors_items, enr_request_items, enr_response_items, enr_seq_items, node_item}
use Rattle.packet_model.specs.From.{is_sender_address, from_bytes}
use Rattle.packet_model.proofs.From.{address_range, address_sender, from_sender}
use Rattle.std.specs.Prelude.{Option, Some, None}
use Rattle.packet.specs.Accepted.{SeqFits, NodeGood, NodesGood, Fields, ping, pong, find_node, neighbors, enr_request, enr_response}
use Rattle.packet_bodies.specs.Parts.{body}
use Rattle.lists.proofs.Laws.{and_left, and_right}
use Rattle.packet_bodies.proofs.Sizes.{total_size, uint-bytes, string_short, string_long, uint-width, fields-size, fields-bound, endpoint-size, node-size}
use Rattle.packet_bodies.specs.Writers.{is_record, content, can_ping, can_pong, neighbors_body}
use Rattle.packet_bodies.proofs.Records.{record_bound, content_is}
use Rattle.packet_join.specs.Join.{datagram}
use Rattle.packet_join.proofs.Datagrams.{datagram-length}
use Rattle.packet_laws.specs.Sizes.{WrittenJoins, AllOf, ReplySizes}
use Rattle.packet_laws.specs.Bodies.{pad_node, WrittenBody}
use Rattle.packet_laws.specs.Bodies as written
use Rattle.packet_laws.specs.RoundTrip.{body_of, Writable}
use Rattle.packet_laws.proofs.Written.{good, same_item, wrote}

-- the header of a payload below 256 ^ k takes at most k bytes more
pub header-width : (base k n : ℕ) → n < 256 ^ k → length (header base n) ≤ 1 + k
header-width base k n h =
    elim (dec_lt n 56) [ yes l ↦ omega (arith, ap length (header_short base n l)) | no g ↦ omega (arith, ap length (header-long base n (omega (arith, g))), uint-bytes k n h) ]

pub header_three : (base n : ℕ) → 256 ≤ n → n < 65536 → length (header base n) ≡ 3
header_three base n h l =
    omega (arith, ap length (header-long base n (omega arith)), length-uint n, width_more 1 n (omega arith), width_least 2 n (omega arith))

-- a list, and a body, by what its items take
pub list_length : (p : Bytes) → length (encode (list p)) ≡ length (header 0xc0 (length p)) + length p
list_length p = ap length (encode_list p) ∙ length-append (header 0xc0 (length p)) p

pub body-length : (kind : ℕ) (items : List Item) → length (body kind items) ≡ 1 + length (header 0xc0 (length (encodes items))) + length (encodes items)
body-length kind items = omega (arith, list_length (encodes items))

body_bound : (k kind : ℕ) (items : List Item) → length (encodes items) < 256 ^ k → length (body kind items) ≤ 2 + k + length (encodes items)
body_bound k kind items h = omega (arith, body-length kind items, header-width 0xc0 k (length (encodes items)) h)

-- the parts at their largest
last_bound : (x : ℕ) (e : Option ℕ) → x < 2 ^ 64 → SeqFits e → length (encodes (uint x ∷ enr_seq_items e)) ≤ 18
last_bound x None hx h = omega (arith, total_size (uint x ∷ []), uint-width 8 x (omega arith) hx)
last_bound x (Some n) hx h =
    omega (arith, total_size (uint x ∷ uint n ∷ []), uint-width 8 x (omega arith) hx, uint-width 8 n (omega arith) h)

endpoint_bound : (a : Bytes) (u t : ℕ) → is_sender_address a ≡ true → u < 2 ^ 16 → t < 2 ^ 16 → length (encode (endpoint a u t)) ≤ 24
endpoint_bound a u t ok hu ht = omega (arith, endpoint-size a u t ok hu ht, fields-bound a u t ok hu ht)

to_bound : (a : Bytes) (u : ℕ) → is_address a ≡ true → u < 2 ^ 16 → length (encode (endpoint a u 0)) ≤ 22
to_bound a u ok hu =
    let s = address_sender a ok in
    omega (arith, endpoint-size a u 0 s hu (omega arith), fields-size a u 0 s, address_range (length a) ok, uint-width 2 u (omega arith) hu, uint_size_small 0 (omega arith))

node_bound : (n : Node) → NodeGood n → length (encode (node_item n)) ≤ 91
node_bound n h =
    let a : Bytes = address_of n.endpoint in
    let e = n.endpoint in
    let g = h.good in
    let z = node-size a e.udp e.tcp n.key g.sized h.key_sized (omega (arith, g.udp_fits)) (omega (arith, g.tcp_fits)) in
    omega (arith, z, fields-bound a e.udp e.tcp (address_sender a g.sized) (omega (arith, g.udp_fits)) (omega (arith, g.tcp_fits)))

nodes_bound : (ns : List Node) → NodesGood ns → length (encodes (map node_item ns)) ≤ 91 * length ns
nodes_bound [] h = omega arith
nodes_bound (n ∷ ns) h = omega (arith, length-append (encode (node_item n)) (encodes (map node_item ns)), node_bound n h.0, nodes_bound ns h.1)

expiration_bound : (x : ℕ) → x < 2 ^ 64 → length (encode (uint x)) ≤ 9
expiration_bound x h = omega (arith, uint-width 8 x (omega arith) h)

-- each of the six
pub ping_bound : (f : Bytes) (fu ft : ℕ) (t : Bytes) (tu x : ℕ) (e : Option ℕ) → can_ping f t ≡ true → fu < 2 ^ 16 → ft < 2 ^ 16 → tu < 2 ^ 16 → x < 2 ^ 64 → SeqFits e
    → length (body 1 (ping_items 4 (endpoint f fu ft) (endpoint t tu 0) x (enr_seq_items e))) ≤ 68
ping_bound f fu ft t tu x e ok hfu hft htu hx he =
    let items : List Item = ping_items 4 (endpoint f fu ft) (endpoint t tu 0) x (enr_seq_items e) in
    let s = total_size items in
    let l = total_size (uint x ∷ enr_seq_items e) in
    let b : length (encodes items) ≤ 65 = omega (
      arith,
      uint_size_small 4 (omega arith),
      endpoint_bound f fu ft (and_left (is_sender_address f) (is_address t) ok) hfu hft,
      to_bound t tu (and_right (is_sender_address f) (is_address t) ok) htu,
      last_bound x e hx he,
    ) in
    omega (arith, body_bound 1 1 items (omega arith))

pub pong_bound : (t : Bytes) (tu : ℕ) (hash : Bytes) (x : ℕ) (e : Option ℕ) → can_pong t hash ≡ true → tu < 2 ^ 16 → x < 2 ^ 64 → SeqFits e
    → length (body 2 (pong_items (endpoint t tu 0) hash x (enr_seq_items e))) ≤ 76
pong_bound t tu hash x e ok htu hx he =
    let items : List Item = pong_items (endpoint t tu 0) hash x (enr_seq_items e) in
    let s = total_size items in
    let l = total_size (uint x ∷ enr_seq_items e) in
    let h = eqb-true (length hash) 32 (and_right (is_address t) (eqb (length hash) 32) ok) in
    let b : length (encodes items) ≤ 73 = omega (
      arith,
      to_bound t tu (and_left (is_address t) (eqb (length hash) 32) ok) htu,
      string_short hash (λ o. omega arith) (omega arith),
      last_bound x e hx he,
    ) in
    omega (arith, body_bound 1 2 items (omega arith))

pub find_node_bound : (target : Bytes) (x : ℕ) → length target ≡ 64 → x < 2 ^ 64 → length (body 3 (find_node_items target x [])) ≤ 78
find_node_bound target x h hx =
    let items : List Item = find_node_items target x [] in
    let b : length (encodes items) ≤ 75 = omega (arith, total_size items, string_long target (omega arith) (omega arith), uint-width 8 x (omega arith) hx) in
    omega (arith, body_bound 1 3 items (omega arith))

pub neighbors_bound : (ns : List Item) (x : ℕ) → length (encodes ns) ≤ 1092 → x < 2 ^ 64 → length (body 4 (neighbors_items ns x [])) ≤ 1108
neighbors_bound ns x h hx =
    let items : List Item = neighbors_items ns x [] in
    let b : length (encodes items) ≤ 1104 = omega (arith, total_size items, list_length (encodes ns), header-width 0xc0 2 (length (encodes ns)) (omega arith), uint-width 8 x (omega arith) hx) in
    omega (arith, body_bound 2 4 items (omega arith))

pub enr_request_bound : (x : ℕ) → x < 2 ^ 64 → length (body 5 (enr_request_items x [])) ≤ 11
enr_request_bound x hx =
    let items : List Item = enr_request_items x [] in
    let b : length (encodes items) ≤ 9 = omega (arith, total_size items, uint-width 8 x (omega arith) hx) in
    omega (arith, body-length 5 items, ap length (header_short 0xc0 (length (encodes items)) (omega arith)))

pub enr_response_bound : (hash r : Bytes) → Slice r → length hash ≡ 32 → is_record r ≡ true → length (body 6 (enr_response_items hash (content r) [])) ≤ 337
enr_response_bound hash r s h ok =
    let items : List Item = enr_response_items hash (content r) [] in
    let b : length (encodes items) ≤ 333 = omega (arith, total_size items, string_short hash (λ o. omega arith) (omega arith), ap length (content_is r s ok), record_bound r ok) in
    omega (arith, body_bound 2 6 items (omega arith))

pub both_true : {a b : Bool} → a ≡ true → b ≡ true → (a && b) ≡ true
both_true p q = rw (p, q)

pub size_of : (f : Fields) → Writable f → length (body_of f) ≤ 1108
size_of (ping f) w =
    omega (
      arith,
      ping_bound (from_bytes f.from_address) f.from_udp f.from_tcp f.to_address f.to_udp f.expiration f.enr-seq
          (both_true (from_sender f.from_address w.from.sized) w.to.sized) (omega (arith, w.from.udp_fits)) (omega (arith, w.from.tcp_fits)) (omega (arith, w.to.udp_fits)) w.expiration w.enr-seq,
    )
size_of (pong f) w =
    omega (
      arith,
      pong_bound f.to_address f.to_udp f.ping-hash f.expiration f.enr-seq
          (both_true w.to.sized (eq-eqb (length f.ping-hash) 32 w.hash)) (omega (arith, w.to.udp_fits)) w.expiration w.enr-seq,
    )
size_of (find_node f) w = omega (arith, find_node_bound f.target f.expiration w.target w.expiration)
size_of (neighbors f) w =
    neighbors_bound (map node_item f.nodes) f.expiration (omega (arith, nodes_bound f.nodes w.nodes, w.few)) w.expiration
size_of (enr_request f) w = omega (arith, enr_request_bound f.expiration w)
size_of (enr_response f) w =
    omega (
      arith,
      enr_response_bound f.request-hash f.enr w.enr (eqb-true (length f.request-hash) 32 (and_left (eqb (length f.request-hash) 32) (is_record f.enr) w.can))
          (and_right (eqb (length f.request-hash) 32) (is_record f.enr) w.can),
    )

-- every body that is written has 1 to 1,108 bytes
some_byte : {b : Bytes} {f : Fields} → WrittenBody b f → 1 ≤ length b
some_byte (written.ping f fu ft t tu x e ok hfu hft htu hx he) = omega arith
some_byte (written.pong t tu hash x e ok htu hx he) = omega arith
some_byte (written.find_node target x ok hx) = omega arith
some_byte (written.neighbors l x ok f hx) = omega arith
some_byte (written.enr_request x hx) = omega arith
some_byte (written.enr_response hash r sl ok) = omega arith

pub body_range : {b : Bytes} {f : Fields} → WrittenBody b f → (1 ≤ length b) × (length b ≤ 1108)
body_range {b} {f} w = let r = wrote w in (some_byte w, omega (arith, size_of f r.can, ap length r.is))

-- so it can be joined
pub written-joins : WrittenJoins
written-joins signature b f h w =
    let r = body_range w in
    record {
      joins = rw (eq-eqb (length signature) 65 h, le-leb 1 (length b) r.0, le-leb (length b) 1183 (omega (arith, r.1)));
      size = omega (arith, datagram-length signature b, r.1);
    }

-- a reply of n nodes of 91 bytes each with an expiration of 9 bytes
largest : (ns : List Item) (n : ℕ) → AllOf 91 ns → length ns ≡ n → length (encodes ns) ≡ 91 * n
largest [] n a e = omega arith
largest (i ∷ is) zero a e = absurd (omega arith)
largest (i ∷ is) (suc n) a e = omega (arith, length-append (encode i) (encodes is), a.0, largest is n a.1 (omega arith))

reply_size : (signature : Bytes) (ns : List Item) (x n : ℕ) → length signature ≡ 65 → AllOf 91 ns → length ns ≡ n → 3 ≤ n → n < 100 → length (encode (uint x)) ≡ 9
    → length (datagram signature (body 4 (neighbors_items ns x []))) ≡ 98 + 3 + 3 + 91 * n + 9
reply_size signature ns x n hs a hn low high hx =
    let items : List Item = neighbors_items ns x [] in
    let p = largest ns n a hn in
    let l : length (encode (list (encodes ns))) ≡ 3 + 91 * n = omega (arith, list_length (encodes ns), header_three 0xc0 (length (encodes ns)) (omega arith) (omega arith)) in
    let b : length (encodes items) ≡ 3 + 91 * n + 9 = omega (arith, total_size items) in
    omega (arith, datagram-length signature (body 4 items), body-length 4 items, header_three 0xc0 (length (encodes items)) (omega arith) (omega arith))

two_byte : (u : ℕ) → 256 ≤ u → u < 2 ^ 16 → length (encode (uint u)) ≡ 3
two_byte u h l = omega (arith, uint_size_large u (omega arith) (omega arith), length-uint u, width_more 1 u (omega arith), width_least 2 u (omega arith))

pub reply_sizes : ReplySizes
reply_sizes =
    record {
      twelve = λ signature ns x hs a hn hx. omega (arith, reply_size signature ns x 12 hs a hn (omega arith) (omega arith) hx);
      thirteen = λ signature ns x hs a hn hx. omega (arith, reply_size signature ns x 13 hs a hn (omega arith) (omega arith) hx);
      node = λ a u t key la hu lu ht lt lk.
          let ok : is_address a ≡ true = ap is_address_size la in
          omega (arith, node-size a u t key ok lk lu lt, fields-size a u t (address_sender a ok), two_byte u hu lu, two_byte t ht lt);
      expiration = λ x h l. omega (arith, uint_size_large x l (omega arith), length-uint x, width_more 7 x h, width_least 8 x l);
      node_most = λ n f ok. omega (arith, node_bound (pad_node n) (good n f ok), ap (λ (i : Item). length (encode i)) (same_item n f ok));
      expiration_most = expiration_bound;
      most = λ signature l x hs ok f hx. omega (arith, datagram-length signature (neighbors_body l x), (body_range (written.neighbors l x ok f hx)).1);
    }
