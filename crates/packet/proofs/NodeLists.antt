-- Neighbors: accepted exactly if the data begins with the encoding of the nodes and the expiration; at most 15 nodes fit.
use Prim.Native.Nat.{ℕ, ◌≤◌, ◌<◌, ◌^◌}
use mathlib.Core.Path.{◌≡◌, refl, sym, ap, subst, ◌∙◌}
use mathlib.Core.Logic.{◌↔◌}
use mathlib.Core.List.{List, [], ◌∷◌, map}
use native.Mathlib.Omega.{arith}
use lib.ListN.{length, length-append}
use Rattle.octets.specs.Octets.{Bytes, Slice}
use Rattle.rlp.specs.Encoding.{Item, list, encode, encodes, payload_of, Small}
use Rattle.rlp.proofs.Encoding.{encode-length, small-first}
use Rattle.packet_model.specs.Items.{data_of, uint, neighbors_items, node_item}
use Rattle.packet_schema.specs.Shapes.{Shapes, Begins, Accepted}
use Rattle.packet_fields.specs.Spans.{nodes_of}
use Rattle.packet.specs.Packets.{schema_of, neighbors_of, read_as}
use Rattle.packet.specs.Accepted.{NeighborsFields, neighbors_fields, NeighborsEncoded}
use Rattle.packet.specs.declared.PacketType.TheVariants as type
use Rattle.packet.specs.declared.Packet.TheVariants as packet
use Rattle.packet.specs.declared.Parsed.TheVariants as parsed
use Rattle.packet.specs.declared.Neighbors.{Neighbors}
use Rattle.packet.proofs.Accepted.{bytes_from, payload, start, small_items, both}
use Rattle.packet.proofs.Inversion.{fits_64, fits-any, missing, bytes-at, uint-at}
use Rattle.packet.proofs.Nodes.{node_in, items_of_nodes, nodes_good, all_nodes, nodes_read, nodes_size}

module _ (g : Bytes) (base : ℕ) (sl : Slice g) (fits : base ≤ length g) where
  abbrev d : Bytes
  d = bytes_from g base sl fits

  found : Accepted 2 (schema_of type.Neighbors) d → (f : NeighborsFields) × NeighborsEncoded d f
  found a = go a.items a.begins a.shapes
    where
      go : (is : List Item) → Begins d is → Shapes 2 (schema_of type.Neighbors) is → (f : NeighborsFields) × NeighborsEncoded d f
      go [] b h = missing h
      go (i ∷ []) b h = missing h.1
      go (i ∷ j ∷ more) b h =
          let small : Small (i ∷ j ∷ more) = small_items g base sl fits (i ∷ j ∷ more) b in
          let ns : List Item = h.0.nodes in
          let sn : Small ns = subst (λ (x : Item). length (payload_of x) < 2 ^ 64) h.0.is (small-first i (j ∷ more) small) in
          let q : map node_item (map node_in ns) ≡ ns = items_of_nodes ns sn h.0.all in
          let p : i ≡ list (encodes (map node_item (map node_in ns))) = h.0.is ∙ ap (λ (x : List Item). list (encodes x)) (sym q) in (
            record { nodes = map node_in ns; expiration = h.1.0.value },
            record {
              more = more;
              begins = subst (Begins d) (λ x. p x ∷ h.1.0.is x ∷ more) b;
              nodes_good = nodes_good ns sn h.0.all;
              expiration_fits = fits-any h.1.0.fits;
            },
          )

  accepted : (f : NeighborsFields) → NeighborsEncoded d f → Accepted 2 (schema_of type.Neighbors) d
  accepted f e =
      record {
        items = neighbors_items (map node_item f.nodes) f.expiration e.more;
        begins = e.begins;
        shapes = (
          record { nodes = map node_item f.nodes; is = refl; all = all_nodes f.nodes e.nodes_good },
          (record { value = f.expiration; is = refl; fits = fits_64 e.expiration_fits }, tt),
        );
      }

  module _ (f : NeighborsFields) (e : NeighborsEncoded d f) where
    small-nodes : Small (map node_item f.nodes)
    small-nodes =
        small-first (list (encodes (map node_item f.nodes))) (uint f.expiration ∷ e.more) (small_items g base sl fits _ e.begins)

    -- 15 nodes fit 1,280 bytes, of which 98 are the head
    pub at-most-15 : length d ≤ 1182 → length f.nodes ≤ 15
    at-most-15 h =
        let is : List Item = neighbors_items (map node_item f.nodes) f.expiration e.more in
        let ns : Item = list (encodes (map node_item f.nodes)) in
        let n = nodes_size f.nodes e.nodes_good small-nodes in
        omega (arith, ap length e.begins.begins, length-append (data_of is) e.begins.rest, encode-length (list (encodes is)), length-append (encode ns) (encodes (uint f.expiration ∷ e.more)), encode-length ns)

  values : (f : NeighborsFields) → NeighborsEncoded d f → neighbors_fields g (neighbors_of (start g base sl fits) (payload g base sl fits)) ≡ f
  unfolding neighbors_of
  values f e =
      let n = ap nodes_of (bytes-at g base sl fits _ e.begins 0 refl) ∙ nodes_read f.nodes e.nodes_good (small-nodes f e) in
      λ i. record { nodes = n i; expiration = uint-at g base sl fits _ e.begins 1 refl e.expiration_fits i }

  pub neighbors-accepted : (f : NeighborsFields) → ((p : Neighbors) × (read_as type.Neighbors base d ≡ parsed.Packet (packet.Neighbors p)) × (neighbors_fields g p ≡ f)) ↔ NeighborsEncoded d f
  neighbors-accepted =
      both g base sl fits type.Neighbors packet.Neighbors (λ p q e. cc) (neighbors_of (start g base sl fits) (payload g base sl fits)) refl (neighbors_fields g) (NeighborsEncoded d) found accepted values
