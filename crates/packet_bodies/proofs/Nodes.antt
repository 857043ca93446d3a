-- Nodes as items: a node record's address, and the nodes of a list up to a place.
use Prim.Native.Nat.{ℕ, ◌+◌, ◌≤◌, ◌<◌}
use mathlib.Core.Path.{◌≡◌, refl, sym, ap, ◌∙◌}
use mathlib.Core.Bool.{Bool, true, ◌&&◌}
use mathlib.Core.List.{List, [], ◌∷◌, map}
use native.Mathlib.Omega.{arith}
use lib.ListN.{length, take, drop, get_or, drop_of_length-le}
use lib.Seq.{length-take-le, drop-cons}
use lib.Dec.{leb}
use borrow.Author.Tests.{leb-true, le-leb}
use native.Mathlib.Numerals.{add-one}
use Rattle.std.specs.List.{list_all}
use Rattle.node.specs.Nodes.{is_address, is_address_size}
use Rattle.packet_model.proofs.From.{address_range}
use Rattle.packet_model.specs.Items.{node_item}
use Rattle.octets.specs.Octets.{Bytes}
use Rattle.node.specs.declared.Node.{Node}
use Rattle.packet_bodies.specs.declared.NodeList.{NodeList}
use Rattle.packet_bodies.specs.Parts.{nodes_in, have_addresses, writable_nodes}
use Rattle.rlp.specs.Encoding.{encode, encodes}
use Rattle.lists.proofs.Laws.{and_left, and_right}
use Rattle.packet_bodies.proofs.Pieces.{pieces}
use lib.ListN.{length-append, length-take}

-- the address of a node record is the first `len` of 16 bytes
module _ (len : ℕ) (address : Bytes) (ok : is_address_size len ≡ true) (l : length address ≡ 16) where
  pub address-within : len ≤ length address
  address-within = omega (arith, address_range len ok)

  pub address_length : length (take len address) ≡ len
  address_length = length-take-le len address address-within

  pub address_is : is_address (take len address) ≡ true
  address_is = ap is_address_size address_length ∙ ok

-- what can be written
pub few : (list : NodeList) → writable_nodes list ≡ true → list.len ≤ 12
few list h = leb-true list.len 12 (and_left (leb list.len 12) (have_addresses (nodes_in list)) h)

pub most : (list : NodeList) → writable_nodes list ≡ true → length (nodes_in list) ≤ 12
most list h = omega (arith, few list h, length-take list.len list.nodes)

pub addresses : (list : NodeList) → writable_nodes list ≡ true → have_addresses (nodes_in list) ≡ true
addresses list h = and_right (leb list.len 12) (have_addresses (nodes_in list)) h

pub writable_by : (list : NodeList) {b : Bool} → list.len ≤ 12 → b ≡ list_all (λ n. is_address_size n.endpoint.len) (nodes_in list) → b ≡ writable_nodes list
writable_by list h e = rw (le-leb list.len 12 h) (e ∙ as_all (nodes_in list))
  where
    as_all : (ns : List Node) → list_all (λ n. is_address_size n.endpoint.len) ns ≡ have_addresses ns
    as_all [] = refl
    as_all (n ∷ ns) = ap (λ (b : Bool). is_address_size n.endpoint.len && b) (as_all ns)

-- what a read past the end of an array of nodes gives
abbrev pub no_node : Node
no_node = record { key = []; endpoint = record { len = 0; address = []; udp = 0; tcp = 0 } }

-- the nodes from place i on
module _ (ns : List Node) (i : ℕ) where
  pub all-passed : length ns ≤ i → drop i ns ≡ []
  all-passed h = drop_of_length-le ns {i = i} h

  module _ (h : i < length ns) where
    pub next-node : drop i ns ≡ get_or ns i no_node ∷ drop (i + 1) ns
    next-node = rw add-one (drop-cons ns i no_node h)

    -- whether the node at i has an address
    abbrev here : Bool
    here = is_address_size (get_or ns i no_node).endpoint.len

    abbrev later : Bool
    later = have_addresses (drop (i + 1) ns)

    from-here : have_addresses (drop i ns) ≡ (here && later)
    from-here = ap have_addresses next-node

    pub has_address : have_addresses (drop i ns) ≡ true → here ≡ true
    has_address e = and_left here later (sym from-here ∙ e)

    pub have-more : have_addresses (drop i ns) ≡ true → later ≡ true
    have-more e = and_right here later (sym from-here ∙ e)

    pub next-piece : pieces (map node_item (drop i ns)) ≡ encode (node_item (get_or ns i no_node)) ∷ pieces (map node_item (drop (i + 1) ns))
    next-piece = ap (λ (l : List Node). pieces (map node_item l)) next-node

    pub next-size : length (encodes (map node_item (drop i ns))) ≡ length (encode (node_item (get_or ns i no_node))) + length (encodes (map node_item (drop (i + 1) ns)))
    next-size =
        ap (λ (l : List Node). length (encodes (map node_item l))) next-node
        ∙ length-append (encode (node_item (get_or ns i no_node))) (encodes (map node_item (drop (i + 1) ns)))
