-- Nodes and the items that encode them.
use Prim.Native.Nat.{ℕ, ◌*◌, ◌≤◌, ◌<◌, ◌^◌}
use mathlib.Core.Path.{◌≡◌, refl, sym, ap, subst, ◌∙◌}
use mathlib.Core.List.{List, [], ◌∷◌, ◌++◌, map}
use native.Mathlib.Omega.{arith}
use borrow.Author.Tests.{le-leb}
use lib.ListN.{length, take, replicate, length-append, length-replicate}
use Rattle.octets.specs.Octets.{Bytes, part, store}
use Rattle.octets.proofs.Laws.{part_all, part-store, store_all}
use Rattle.rlp.specs.Encoding.{Item, string, encode, encodes, header, payload_of, Small}
use Rattle.rlp.proofs.Numbers.{uint_lead}
use Rattle.rlp.proofs.Reading.{item-bounds}
use Rattle.rlp.proofs.Writing.{header_short, header-long, encode_framed, encode_list}
use Rattle.rlp.proofs.Encoding.{read_item, encode-length, small-first, small-rest}
use Rattle.packet_model.specs.Items.{uint, node, node_item}
use Rattle.packet_model.proofs.From.{address_range}
use Rattle.packet_schema.specs.Shapes.{IsEndpoint, IsNode, AllNodes}
use Rattle.packet_kinds.proofs.Payload.{items_encodes}
use Rattle.node.specs.declared.Node.{Node}
use Rattle.node.specs.Nodes.{address_of}
use Rattle.packet_fields.specs.Spans.{fitting, padded, node_of, nodes_of}
use Rattle.packet.specs.Accepted.{NodeGood, NodesGood}
use Rattle.packet.proofs.Values.{Lies, item_is, port-is}

-- ---- addresses and keys, padded

fitting_is : (n : ℕ) (s : Bytes) → length s ≤ n → fitting n s ≡ s
fitting_is n s h = rw (le-leb (length s) n h)

padded_all : (n : ℕ) (s : Bytes) → length s ≡ n → padded n s ≡ s
unfolding padded
padded_all n s h =
    ap (store (replicate n 0) 0) (fitting_is n s (omega arith)) ∙ store_all (replicate n 0) s (h ∙ sym (length-replicate n 0))

pub padded_front : (n : ℕ) (s : Bytes) → length s ≤ n → take (length s) (padded n s) ≡ s
unfolding padded part
padded_front n s h =
    ap (λ (x : Bytes). take (length s) (store (replicate n 0) 0 x)) (fitting_is n s h)
    ∙ part-store s (replicate n 0) 0 (omega (arith, length-replicate {A = ℕ} n 0))

-- ---- a node of its values

abbrev made : Bytes → ℕ → ℕ → Bytes → Node
made a u t k = record { key = k; endpoint = record { len = length a; address = padded 16 a; udp = u; tcp = t } }

module _ (a : Bytes) (u t : ℕ) (k : Bytes) (good : IsEndpoint a u t) (sized : length k ≡ 64) where
  parts : List Item
  parts = string a ∷ uint u ∷ uint t ∷ string k ∷ []

  node_made : length (payload_of (node a u t k)) < 2 ^ 64 → node_of (payload_of (node a u t k)) ≡ made a u t k
  unfolding node_of parts
  node_made small =
      let p : Bytes = encodes parts in
      let lies : Lies p 0 p = record { inside = omega arith; bytes = part_all p (length p) (omega arith) } in
      let i₀ = ap payload_of (item_is p 0 p parts lies refl small 0) in
      let i₃ = ap payload_of (item_is p 0 p parts lies refl small 3) in
      let key = ap (padded 64) i₃ ∙ padded_all 64 k sized in
      let len = ap (λ (x : Bytes). length (fitting 16 x)) i₀ ∙ ap length (fitting_is 16 a (address_range (length a) good.sized).1) in
      let address = ap (padded 16) i₀ in
      let udp = port-is p 0 p parts lies refl small 1 refl good.udp_fits in
      let tcp = port-is p 0 p parts lies refl small 2 refl good.tcp_fits in
      λ j. record { key = key j; endpoint = record { len = len j; address = address j; udp = udp j; tcp = tcp j } }

  back : address_of (made a u t k).endpoint ≡ a
  back = padded_front 16 a (address_range (length a) good.sized).1

  made-item : node_item (made a u t k) ≡ node a u t k
  made-item = ap (λ (x : Bytes). node x u t k) back

  made-good : NodeGood (made a u t k)
  made-good =
      record {
        good = subst (λ (x : Bytes). IsEndpoint x u t) (sym back) good;
        len = ap length (sym back);
        address = ap (padded 16) (sym back);
        key_sized = sized;
      }

-- ---- items that are nodes are the items of nodes

module _ (i : Item) (n : IsNode i) (small : length (payload_of i) < 2 ^ 64) where
  node_is : node_of (payload_of i) ≡ made n.address n.udp n.tcp n.key
  node_is =
      ap (λ (x : Item). node_of (payload_of x)) n.is
      ∙ node_made n.address n.udp n.tcp n.key n.good n.sized (subst (λ (x : Item). length (payload_of x) < 2 ^ 64) n.is small)

  item-of-node : node_item (node_of (payload_of i)) ≡ i
  item-of-node = ap node_item node_is ∙ made-item n.address n.udp n.tcp n.key n.good n.sized ∙ sym n.is

  node-good : NodeGood (node_of (payload_of i))
  node-good = subst NodeGood (sym node_is) (made-good n.address n.udp n.tcp n.key n.good n.sized)

abbrev pub node_in : Item → Node
node_in i = node_of (payload_of i)

pub items_of_nodes : (is : List Item) → Small is → AllNodes is → map node_item (map node_in is) ≡ is
items_of_nodes [] small a = refl
items_of_nodes (i ∷ is) small a =
    let e = item-of-node i a.0 (small-first i is small) in
    let r = items_of_nodes is (small-rest i is small) a.1 in
    λ j. e j ∷ r j

pub nodes_good : (is : List Item) → Small is → AllNodes is → NodesGood (map node_in is)
nodes_good [] small a = tt
nodes_good (i ∷ is) small a = (node-good i a.0 (small-first i is small), nodes_good is (small-rest i is small) a.1)

-- ---- and the items of nodes are nodes

item_node : (n : Node) → NodeGood n → IsNode (node_item n)
item_node n h =
    record { address = address_of n.endpoint; udp = n.endpoint.udp; tcp = n.endpoint.tcp; key = n.key; is = refl; good = h.good; sized = h.key_sized }

pub all_nodes : (ns : List Node) → NodesGood ns → AllNodes (map node_item ns)
all_nodes [] h = tt
all_nodes (n ∷ ns) h = (item_node n h.0, all_nodes ns h.1)

same_node : (n : Node) → NodeGood n → length (payload_of (node_item n)) < 2 ^ 64 → node_in (node_item n) ≡ n
same_node n h small =
    node_made (address_of n.endpoint) n.endpoint.udp n.endpoint.tcp n.key h.good h.key_sized small
    ∙ (λ j. record { key = n.key; endpoint = record { len = sym h.len j; address = sym h.address j; udp = n.endpoint.udp; tcp = n.endpoint.tcp } })

pub same_nodes : (ns : List Node) → NodesGood ns → Small (map node_item ns) → map node_in (map node_item ns) ≡ ns
same_nodes [] h small = refl
same_nodes (n ∷ ns) h small =
    let e = same_node n h.0 (small-first (node_item n) (map node_item ns) small) in
    let r = same_nodes ns h.1 (small-rest (node_item n) (map node_item ns) small) in
    λ j. e j ∷ r j

pub nodes_read : (ns : List Node) → NodesGood ns → Small (map node_item ns) → nodes_of (encodes (map node_item ns)) ≡ ns
nodes_read ns h small = ap (map node_in) (items_encodes (map node_item ns) small) ∙ same_nodes ns h small

-- ---- a node takes at least 75 bytes

some : (i : Item) → length (payload_of i) < 2 ^ 64 → 0 < length (encode i)
some i small = omega (arith, encode-length i, (item-bounds (encode i ++ []) (read_item i [] small)).0)

long-header : (b n : ℕ) → 56 ≤ n → 2 ≤ length (header b n)
long-header b n h = omega (arith, ap length (header-long b n h), (uint_lead n (omega arith)).0)

node-size : (n : Node) → NodeGood n → length (payload_of (node_item n)) < 2 ^ 64 → 75 ≤ length (encode (node_item n))
node-size n h small =
    let a : Bytes = address_of n.endpoint in
    let k : Bytes = n.key in
    let u : Item = uint n.endpoint.udp in
    let t : Item = uint n.endpoint.tcp in
    let is₃ : List Item = string k ∷ [] in
    let is₂ : List Item = t ∷ is₃ in
    let is₁ : List Item = u ∷ is₂ in
    let s₁ : Small is₁ = small-rest (string a) is₁ small in
    let s₂ : Small is₂ = small-rest u is₂ s₁ in
    let r = address_range (length a) h.good.sized in
    let ea = ap length (encode_framed a (λ (o : length a ≡ 1). absurd (omega arith))) ∙ length-append (header 0x80 (length a)) a in
    let ha = ap length (header_short 0x80 (length a) (omega arith)) in
    let ek = ap length (encode_framed k (λ (o : length k ≡ 1). absurd (omega (arith, h.key_sized)))) ∙ length-append (header 0x80 (length k)) k in
    let hk = long-header 0x80 (length k) (omega (arith, h.key_sized)) in
    let su = some u (small-first u is₂ s₁) in
    let st = some t (small-first t is₃ s₂) in
    let p : Bytes = payload_of (node_item n) in
    let l₁ = length-append (encode (string a)) (encodes is₁) in
    let l₂ = length-append (encode u) (encodes is₂) in
    let l₃ = length-append (encode t) (encodes is₃) in
    let l₄ = length-append (encode (string k)) [] in
    let lp : 73 ≤ length p = omega (arith, h.key_sized) in
    let ep = ap length (encode_list p) ∙ length-append (header 0xc0 (length p)) p in
    omega (arith, long-header 0xc0 (length p) (omega arith))

pub nodes_size : (ns : List Node) → NodesGood ns → Small (map node_item ns) → 75 * length ns ≤ length (encodes (map node_item ns))
nodes_size [] h small = omega arith
nodes_size (n ∷ ns) h small =
    omega (arith, node-size n h.0 (small-first (node_item n) (map node_item ns) small), nodes_size ns h.1 (small-rest (node_item n) (map node_item ns) small), length-append (encode (node_item n)) (encodes (map node_item ns)))
