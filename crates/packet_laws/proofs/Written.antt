-- Every body that the writers write is that of fields that can be written. A node record's address is padded with zeros when it is read.
use Prim.Native.Nat.{ℕ}
use mathlib.Core.Path.{◌≡◌, refl, sym, ap, ◌∙◌}
use mathlib.Core.Bool.{true}
use mathlib.Core.List.{List, [], ◌∷◌, map}
use native.Mathlib.Omega.{arith}
use lib.Dec.{eqb}
use borrow.Author.Tests.{eqb-true}
use lib.ListN.{length, take, length-map, length-take}
use Rattle.octets.specs.Octets.{Bytes}
use Rattle.node.specs.declared.Node.{Node}
use Rattle.node.specs.Nodes.{address_of, is_address, is_address_size}
use Rattle.rlp.specs.Encoding.{Item}
use Rattle.packet_model.specs.Items.{node, neighbors_items, node_item}
use Rattle.packet_model.specs.From.{is_sender_address}
use Rattle.packet_model.proofs.From.{address_range, said_bytes, said_good}
use Rattle.packet_fields.specs.Spans.{padded}
use Rattle.packet.specs.Accepted.{NodeGood, NodesGood, Fields}
use Rattle.packet.proofs.Nodes.{padded_front}
use Rattle.packet_bodies.specs.Parts.{body, nodes_in, have_addresses}
use Rattle.packet_bodies.specs.Writers.{ping_body}
use Rattle.lists.proofs.Laws.{and_left, and_right}
use Rattle.packet_bodies.proofs.Nodes.{few, addresses, address_length}
use Rattle.packet_laws.specs.Bodies.{NodeFits, NodesFit, pad_node, WrittenBody}
use Rattle.packet_laws.specs.Bodies as written
use Rattle.packet_laws.specs.RoundTrip.{body_of, Writable}

module _ (n : Node) (f : NodeFits n) (ok : is_address_size n.endpoint.len ≡ true) where
  size : length (address_of n.endpoint) ≡ n.endpoint.len
  size = address_length n.endpoint.len n.endpoint.address ok f.address

  same_address : address_of (pad_node n).endpoint ≡ address_of n.endpoint
  unfolding pad_node
  same_address =
      ap (λ (k : ℕ). take k (padded 16 (address_of n.endpoint))) (sym size) ∙ padded_front 16 (address_of n.endpoint) (omega (arith, size, address_range n.endpoint.len ok))

  pub good : NodeGood (pad_node n)
  unfolding pad_node
  good =
      record {
        good = record { sized = ap is_address same_address ∙ ap is_address_size size ∙ ok; udp_fits = omega (arith, f.udp); tcp_fits = omega (arith, f.tcp) };
        len = sym (ap length same_address ∙ size);
        address = ap (padded 16) (sym same_address);
        key_sized = f.key;
      }

  pub same_item : node_item (pad_node n) ≡ node_item n
  unfolding pad_node
  same_item = ap (λ (a : Bytes). node a n.endpoint.udp n.endpoint.tcp n.key) same_address

all_good : (ns : List Node) → NodesFit ns → have_addresses ns ≡ true → NodesGood (map pad_node ns)
all_good [] f ok = tt
all_good (n ∷ ns) f ok = (
  good n f.0 (and_left (is_address_size n.endpoint.len) (have_addresses ns) ok),
  all_good ns f.1 (and_right (is_address_size n.endpoint.len) (have_addresses ns) ok),
)

same_items : (ns : List Node) → NodesFit ns → have_addresses ns ≡ true → map node_item (map pad_node ns) ≡ map node_item ns
same_items [] f ok = refl
same_items (n ∷ ns) f ok =
    let p = same_item n f.0 (and_left (is_address_size n.endpoint.len) (have_addresses ns) ok) in
    let q = same_items ns f.1 (and_right (is_address_size n.endpoint.len) (have_addresses ns) ok) in
    λ i. p i ∷ q i

-- the fields of what a writer writes can be written, and their body is what is written
pub record Wrote (b : Bytes) (f : Fields) : Type 0 where
  pub can : Writable f
  pub is : body_of f ≡ b

pub wrote : {b : Bytes} {f : Fields} → WrittenBody b f → Wrote b f
wrote (written.ping f fu ft t tu x e ok hfu hft htu hx he) =
    record {
      can =
          record {
            version = refl;
            from = record { sized = said_good f (and_left (is_sender_address f) (is_address t) ok); udp_fits = omega arith; tcp_fits = omega arith };
            to = record { sized = and_right (is_sender_address f) (is_address t) ok; udp_fits = omega arith; tcp_fits = omega arith };
            expiration = hx;
            enr-seq = he;
          };
      is = ap (λ (a : Bytes). ping_body a fu ft t tu x e) (said_bytes f);
    }
wrote (written.pong t tu hash x e ok htu hx he) =
    record {
      can =
          record {
            to = record { sized = and_left (is_address t) (eqb (length hash) 32) ok; udp_fits = omega arith; tcp_fits = omega arith };
            hash = eqb-true (length hash) 32 (and_right (is_address t) (eqb (length hash) 32) ok);
            expiration = hx;
            enr-seq = he;
          };
      is = refl;
    }
wrote (written.find_node target x ok hx) = record { can = record { target = eqb-true (length target) 64 ok; expiration = hx }; is = refl }
wrote (written.neighbors l x ok f hx) =
    let ns : List Node = nodes_in l in
    record {
      can = record { few = omega (arith, length-map ns pad_node, length-take l.len l.nodes, few l ok); nodes = all_good ns f (addresses l ok); expiration = hx };
      is = ap (λ (is : List Item). body 4 (neighbors_items is x [])) (same_items ns f (addresses l ok));
    }
wrote (written.enr_request x hx) = record { can = hx; is = refl }
wrote (written.enr_response hash r sl ok) = record { can = record { can = ok; enr = sl }; is = refl }
