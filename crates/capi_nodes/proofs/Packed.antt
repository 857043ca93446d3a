-- Packed nodes, unpacked one by one. Assumes nothing.
use mathlib.Core.Path.{◌≡◌, refl, sym, ap, ◌∙◌}
use mathlib.Core.Bool.{Bool, true, false, ◌&&◌}
use mathlib.Core.List.{List, [], ◌∷◌, ◌++◌, map}
use Prim.Native.Nat.{ℕ, zero, suc, ◌+◌, ◌*◌, ◌/◌, ◌%◌, ◌^◌, ◌≤◌, ◌<◌}
use native.Mathlib.Nat.{add-zero}
use native.Mathlib.Numerals.{add-one}
use native.Mathlib.Omega.{arith}
use borrow.Author.Tests.{leb-true}
use lib.Dec.{eqb, leb}
use lib.ListN.{length, take, set, get_or}
use lib.Seq.{take-suc-set, take_all}
use Rattle.octets.specs.Octets.{Bytes, IsBytes, part, number}
use Rattle.octets.proofs.Laws.{part-part, length_part, number_less, bytes_part}
use Rattle.lists.proofs.Laws.{and_left}
use Rattle.node.specs.declared.Node.{Node}
use Rattle.entry.specs.Layout.{decode_endpoint}
use Rattle.entry.proofs.Laws.{decode-endpoint}
use Rattle.table_model.specs.Layout.{tabulate}
use Rattle.table_model.proofs.Records.{length-tabulate}
use Rattle.packet_model.specs.Items.{neighbors_items, node_item}
use Rattle.packet_bodies.specs.Parts.{body, nodes_in, have_addresses, writable_nodes}
use Rattle.written.specs.Written.{written, written_in}
use Rattle.packet_bodies.specs.declared.NodeList.{NodeList}
use Rattle.packet_bodies.specs.Writers.{neighbors_body}
use Rattle.packet_laws.specs.Bodies.{NodeFits, NodesFit, neighbors_written, WrittenBody, neighbors}
use Rattle.capi_nodes.specs.Packed.{packed_node, packed_at, packed_list, is_packed, can_packed}

-- the calls of `packed_at`, put together
pub packed_is : (s : Bytes) (i : ℕ) {key address : Bytes} {udp tcp : ℕ}
    → address ≡ part s (i * 85 + 1) 16 → udp ≡ number (part s (i * 85 + 17) 2) → tcp ≡ number (part s (i * 85 + 19) 2) → key ≡ part s (i * 85 + 21) 64
    → record { key = key; endpoint = record { len = get_or s (i * 85) 0; address = address; udp = udp; tcp = tcp } } ≡ packed_at s i
packed_is s i ea eu et ek =
    cc (
      decode-endpoint s (i * 85),
      add-zero (i * 85),
      part-part s (i * 85) 85 0 21 (omega arith),
      part-part s (i * 85) 85 21 64 (omega arith),
    )

tabulate_next : {A : Type 0} (n : ℕ) (f : ℕ → A) → tabulate (suc n) f ≡ tabulate n f ++ (f n ∷ [])
unfolding tabulate
tabulate_next zero f = refl
tabulate_next (suc n) f = ap (λ l. f 0 ∷ l) (tabulate_next n (λ i. f (suc i)))

-- one more
pub turn : (s : Bytes) (l : List Node) (i : ℕ) {node : Node} → i < length l → take i l ≡ tabulate i (packed_at s) → node ≡ packed_at s i
    → take (i + 1) (set l i node) ≡ tabulate (i + 1) (packed_at s)
turn s l i {node} h e en =
    rw add-one (take-suc-set l i node h ∙ ap (λ x. x ++ (node ∷ [])) e ∙ ap (λ x. tabulate i (packed_at s) ++ (x ∷ [])) en ∙ sym (tabulate_next i (packed_at s)))

-- ---- the list by its packed form

pub few : (s : Bytes) → is_packed s ≡ true → length s ≤ 1360
few s ok = leb-true (length s) 1360 (and_left (leb (length s) 1360) (eqb (length s % 85) 0) ok)

fits_all : (n : ℕ) (f : ℕ → Node) → ((i : ℕ) → i < n → NodeFits (f i)) → NodesFit (tabulate n f)
unfolding tabulate
fits_all zero f h = tt
fits_all (suc n) f h = (h 0 (omega arith), fits_all n (λ i. f (suc i)) (λ i k. h (suc i) (omega arith)))

-- what the type of a node record says
node-fits : (b : Bytes) → length b ≡ 85 → IsBytes b → NodeFits (packed_node b)
unfolding decode_endpoint
node-fits b n bs =
    let e : Bytes = part b 0 21 in
    let size : length e ≡ 21 = length_part b 0 21 (omega arith) in
    let eb : IsBytes e = bytes_part b 0 21 bs in
    record {
      key = length_part b 21 64 (omega arith);
      address = length_part e 1 16 (omega arith);
      udp = number_less e 17 2 (omega arith) eb;
      tcp = number_less e 19 2 (omega arith) eb;
    }

-- l is what `unpacked` makes of s
module _ (s : Bytes) (ok : is_packed s ≡ true) (l : NodeList) (n : l.len ≡ length s / 85) (e : take l.len l.nodes ≡ (packed_list s).nodes) where
  same_nodes : nodes_in l ≡ nodes_in (packed_list s)
  same_nodes = e ∙ sym (take_all (length s / 85) (packed_list s).nodes (omega (arith, length-tabulate (length s / 85) (packed_at s))))

  pub same_body : (x : ℕ) → neighbors_body l x ≡ neighbors_body (packed_list s) x
  same_body x = ap (λ (ns : List Node). body 4 (neighbors_items (map node_item ns) x [])) same_nodes

  pub same_test : writable_nodes l ≡ can_packed s
  same_test =
      (λ i. leb (n i) 12 && have_addresses (same_nodes i)) ∙ sym (ap (λ (b : Bool). b && writable_nodes (packed_list s)) ok)

  pub nodes-fit : IsBytes s → NodesFit (nodes_in l)
  nodes-fit bs =
      rw e
      (fits_all (length s / 85) (packed_at s) (λ i h. node-fits (part s (i * 85) 85) (length_part s (i * 85) 85 (omega arith)) (bytes_part s (i * 85) 85 bs)))

  pub body-is-written : IsBytes s → (x : ℕ) → x < 2 ^ 64 → writable_nodes l ≡ true → WrittenBody (neighbors_body l x) (neighbors_written l x)
  body-is-written bs x hx t = neighbors l x t (nodes-fit bs) hx

  pub same_answer : (x : ℕ) (buf : Bytes) → written (writable_nodes l) (neighbors_body l x) buf ≡ written (can_packed s) (neighbors_body (packed_list s) x) buf
  same_answer x buf i = written (same_test i) (same_body x i) buf

  pub same_bytes : (x : ℕ) (buf : Bytes) → written_in (writable_nodes l) (neighbors_body l x) buf ≡ written_in (can_packed s) (neighbors_body (packed_list s) x) buf
  same_bytes x buf i = written_in (same_test i) (same_body x i) buf
