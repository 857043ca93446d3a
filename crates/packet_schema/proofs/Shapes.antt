-- An item is what a kind asks exactly if it encodes a value of the kind.
use Prim.Native.Nat.{ℕ, ◌-◌, ◌≤◌, ◌<◌, ◌^◌}
use Rattle.std.specs.Prelude.{Option, Some, None}
use mathlib.Core.Path.{◌≡◌, refl, sym, ap, subst, ◌∙◌}
use mathlib.Core.Bool.{Bool, true, false, cond, ◌&&◌, false≢true}
use mathlib.Core.List.{List, [], ◌∷◌}
use native.Mathlib.Omega.{arith}
use borrow.Author.Tests.{eq-eqb, eqb-true, le-leb, leb-true}
use lib.ListN.{length}
use Rattle.octets.specs.Octets.{Slice}
use Rattle.octets.specs.Octets as octets
use Rattle.rlp.specs.Encoding.{Item, string, list, encode, encodes, payload_of, Small}
use Rattle.rlp.specs.Reading.{whole, uint_of}
use Rattle.rlp.proofs.Encoding.{uint_read, uint-sound, whole-encodes, small-first, small-rest}
use Rattle.packet_model.specs.Items.{uint}
use Rattle.packet_model.specs.From.{From, from_said, from_bytes}
use Rattle.packet_model.proofs.From.{said_bytes, said_good, from_sender}
use Rattle.packet_kinds.specs.Payload.{items_of}
use Rattle.packet_kinds.specs.Kinds.{worst, good_if, at_most, is_leaf, leaves, tuple, is_record_item}
use Rattle.packet_kinds.specs.Kinds as schema
use Rattle.packet_schema.specs.Schema.{each_node, nodes, field, fields}
use Rattle.packet_schema.specs.Shapes.{IsEndpoint, IsSender, IsUint, IsString, IsAddressItem, IsSenderAddress, IsEndpointItem, IsSenderItem, IsNode, AllNodes, IsNodes, IsRecord, Shape, Shapes}
use Rattle.packet_kinds.specs.declared.Kind.{Kind}
use Rattle.packet_kinds.specs.declared.Kind.TheVariants.{Uint, Bytes, Address, SenderAddress, Endpoint, Sender, Nodes, Record}
use Rattle.packet_kinds.specs.declared.Verdict.{Verdict}
use Rattle.packet_kinds.specs.declared.Verdict.TheVariants.{Good, Wrong, Broken}
use Rattle.packet_kinds.proofs.Payload.{items_encodes, encodes_items, Slices, slices_items}

-- ---- verdicts and tests

pub both_good : (a b : Verdict) → worst a b ≡ Good → (a ≡ Good) × (b ≡ Good)
both_good Good b e = (refl, e)
both_good Broken b e = absurd (let z : ◌≡◌ {A = ℕ} 0 1 = cc in omega arith)
both_good Wrong Good e = absurd (let z : ◌≡◌ {A = ℕ} 0 1 = cc in omega arith)
both_good Wrong Broken e = absurd (let z : ◌≡◌ {A = ℕ} 0 1 = cc in omega arith)
both_good Wrong Wrong e = absurd (let z : ◌≡◌ {A = ℕ} 0 1 = cc in omega arith)

pub good_both : {a b : Verdict} → a ≡ Good → b ≡ Good → worst a b ≡ Good
good_both p q = rw (p, q)

good-if : (b : Bool) → good_if b ≡ Good → b ≡ true
good-if true e = refl
good-if false e = absurd (let z : ◌≡◌ {A = ℕ} 0 1 = cc in omega arith)

and_true : (a b : Bool) → (a && b) ≡ true → (a ≡ true) × (b ≡ true)
and_true true b e = (refl, e)
and_true false b e = absurd (false≢true e)

both_true : {a b : Bool} → a ≡ true → b ≡ true → (a && b) ≡ true
both_true p q = rw (p, q)

whole_good : (w : Bool) (v : Verdict) → cond w v Broken ≡ Good → (w ≡ true) × (v ≡ Good)
whole_good true v e = (refl, e)
whole_good false v e = absurd (let z : ◌≡◌ {A = ℕ} 0 1 = cc in omega arith)

-- ---- strings

at-most : (u : Option ℕ) (max : ℕ) → at_most u max ≡ true → (v : ℕ) × (u ≡ Some v) × (v ≤ max)
at-most (Some v) max e = (v, refl, leb-true v max e)
at-most None max e = absurd (false≢true e)

pub uint_shape : (max : ℕ) (i : Item) → Slice (payload_of i) → is_leaf (Uint max) i ≡ true → IsUint max i
uint_shape max (string s) sl e =
    let r = at-most (uint_of s) max e in
    record { value = r.0; is = ap string (uint-sound s r.0 sl r.1); fits = r.2 }
uint_shape max (list p) sl e = absurd (false≢true e)

pub shape_uint : (max n : ℕ) → max < 2 ^ 64 → n ≤ max → is_leaf (Uint max) (uint n) ≡ true
shape_uint max n small h = rw (uint_read n (omega arith)) (le-leb n max h)

pub string_shape : (n : ℕ) (i : Item) → is_leaf (Bytes n) i ≡ true → IsString n i
string_shape n (string s) e = record { bytes = s; is = refl; sized = eqb-true (length s) n e }
string_shape n (list p) e = absurd (false≢true e)

pub address_shape : (i : Item) → is_leaf Address i ≡ true → IsAddressItem i
address_shape (string s) e = record { bytes = s; is = refl; sized = e }
address_shape (list p) e = absurd (false≢true e)

pub sender_address_shape : (i : Item) → is_leaf SenderAddress i ≡ true → IsSenderAddress i
sender_address_shape (string s) e = record { from = from_said s; is = ap string (sym (said_bytes s)); sized = said_good s e }
sender_address_shape (list p) e = absurd (false≢true e)

-- ---- endpoints and nodes

module _ (f : From) (u t : ℕ) (g : IsSender f u t) where
  pub sender-leaves : leaves schema.sender (string (from_bytes f) ∷ uint u ∷ uint t ∷ []) ≡ true
  sender-leaves =
      both_true (from_sender f g.sized) (both_true (shape_uint 65535 u (omega arith) g.udp_fits) (both_true (shape_uint 65535 t (omega arith) g.tcp_fits) refl))

module _ (a : octets.Bytes) (u t : ℕ) (g : IsEndpoint a u t) where
  pub endpoint-leaves : leaves schema.endpoint (string a ∷ uint u ∷ uint t ∷ []) ≡ true
  endpoint-leaves =
      both_true g.sized (both_true (shape_uint 65535 u (omega arith) g.udp_fits) (both_true (shape_uint 65535 t (omega arith) g.tcp_fits) refl))

  pub node-leaves : (k : octets.Bytes) → length k ≡ 64 → leaves schema.node (string a ∷ uint u ∷ uint t ∷ string k ∷ []) ≡ true
  node-leaves k h =
      both_true g.sized (both_true (shape_uint 65535 u (omega arith) g.udp_fits) (both_true (shape_uint 65535 t (omega arith) g.tcp_fits) (both_true (eq-eqb (length k) 64 h) refl)))

-- the first three items of an endpoint or a node: one of the kind `first`, and two ports
pub record Three (first : Kind) (items : List Item) (kinds : List Kind) : Type 0 where
  pub item : Item
  pub udp : ℕ
  pub tcp : ℕ
  pub more : List Item
  pub is : items ≡ item ∷ uint udp ∷ uint tcp ∷ more
  pub leaf : is_leaf first item ≡ true
  pub udp_fits : udp ≤ 65535
  pub tcp_fits : tcp ≤ 65535
  pub rest : leaves kinds more ≡ true

three : (first : Kind) (kinds : List Kind) (is : List Item) → Slices is → leaves (first ∷ Uint 65535 ∷ Uint 65535 ∷ kinds) is ≡ true → Three first is kinds
three first kinds [] sl e = absurd (false≢true e)
three first kinds (i ∷ []) sl e = absurd (false≢true (and_true (is_leaf first i) false e).1)
three first kinds (i ∷ j ∷ []) sl e = absurd (false≢true (and_true (is_leaf (Uint 65535) j) false (and_true (is_leaf first i) _ e).1).1)
three first kinds (i ∷ j ∷ k ∷ more) sl e =
    let ei = and_true (is_leaf first i) _ e in
    let ej = and_true (is_leaf (Uint 65535) j) _ ei.1 in
    let ek = and_true (is_leaf (Uint 65535) k) _ ej.1 in
    let u = uint_shape 65535 j sl.1.0 ej.0 in
    let t = uint_shape 65535 k sl.1.1.0 ek.0 in
    record {
      item = i;
      udp = u.value;
      tcp = t.value;
      more = more;
      is = λ x. i ∷ u.is x ∷ t.is x ∷ more;
      leaf = ei.0;
      udp_fits = u.fits;
      tcp_fits = t.fits;
      rest = ek.1;
    }

no_more : (is : List Item) → leaves [] is ≡ true → is ≡ []
no_more [] e = refl
no_more (i ∷ is) e = absurd (false≢true e)

one_key : (is : List Item) → leaves (Bytes 64 ∷ []) is ≡ true → (k : octets.Bytes) × (is ≡ string k ∷ []) × (length k ≡ 64)
one_key [] e = absurd (false≢true e)
one_key (i ∷ is) e =
    let r = and_true (is_leaf (Bytes 64) i) _ e in
    let s = string_shape 64 i r.0 in
    (s.bytes, (λ x. s.is x ∷ no_more is r.1 x), s.sized)

-- a list whose items are known
listed : (p : octets.Bytes) (is : List Item) → Slice p → whole p ≡ true → items_of p ≡ is → list p ≡ list (encodes is)
listed p is sl w e = ap list (sym (encodes_items p sl w) ∙ ap encodes e)

pub endpoint_shape : (i : Item) → Slice (payload_of i) → tuple schema.endpoint i ≡ Good → IsEndpointItem i
endpoint_shape (string s) sl e = absurd (let z : ◌≡◌ {A = ℕ} 0 1 = cc in omega arith)
endpoint_shape (list p) sl e =
    let w = whole_good (whole p) _ e in
    let r = three Address [] (items_of p) (slices_items p sl) (good-if _ w.1) in
    let a = address_shape r.item r.leaf in
    record {
      address = a.bytes;
      udp = r.udp;
      tcp = r.tcp;
      is = listed p _ sl w.0 (r.is ∙ (λ x. a.is x ∷ uint r.udp ∷ uint r.tcp ∷ no_more r.more r.rest x));
      good = record { sized = a.sized; udp_fits = r.udp_fits; tcp_fits = r.tcp_fits };
    }

pub sender_shape : (i : Item) → Slice (payload_of i) → tuple schema.sender i ≡ Good → IsSenderItem i
sender_shape (string s) sl e = absurd (let z : ◌≡◌ {A = ℕ} 0 1 = cc in omega arith)
sender_shape (list p) sl e =
    let w = whole_good (whole p) _ e in
    let r = three SenderAddress [] (items_of p) (slices_items p sl) (good-if _ w.1) in
    let a = sender_address_shape r.item r.leaf in
    record {
      from = a.from;
      udp = r.udp;
      tcp = r.tcp;
      is = listed p _ sl w.0 (r.is ∙ (λ x. a.is x ∷ uint r.udp ∷ uint r.tcp ∷ no_more r.more r.rest x));
      good = record { sized = a.sized; udp_fits = r.udp_fits; tcp_fits = r.tcp_fits };
    }

pub node_shape : (i : Item) → Slice (payload_of i) → tuple schema.node i ≡ Good → IsNode i
node_shape (string s) sl e = absurd (let z : ◌≡◌ {A = ℕ} 0 1 = cc in omega arith)
node_shape (list p) sl e =
    let w = whole_good (whole p) _ e in
    let r = three Address (Bytes 64 ∷ []) (items_of p) (slices_items p sl) (good-if _ w.1) in
    let a = address_shape r.item r.leaf in
    let k = one_key r.more r.rest in
    record {
      address = a.bytes;
      udp = r.udp;
      tcp = r.tcp;
      key = k.0;
      is = listed p _ sl w.0 (r.is ∙ (λ x. a.is x ∷ uint r.udp ∷ uint r.tcp ∷ k.1 x));
      good = record { sized = a.sized; udp_fits = r.udp_fits; tcp_fits = r.tcp_fits };
      sized = k.2;
    }

-- the other way: a list of items that are the strings asked
shape_tuple : (kinds : List Kind) (is : List Item) → Small is → leaves kinds is ≡ true → tuple kinds (list (encodes is)) ≡ Good
shape_tuple kinds is small e = rw (whole-encodes is small, items_encodes is small, e)

all_nodes : (is : List Item) → Slices is → each_node is ≡ Good → AllNodes is
all_nodes [] sl e = tt
all_nodes (i ∷ is) sl e =
    let r = both_good (tuple schema.node i) (each_node is) e in
    (node_shape i sl.0 r.0, all_nodes is sl.1 r.1)

nodes_shape : (i : Item) → Slice (payload_of i) → nodes i ≡ Good → IsNodes i
nodes_shape (string s) sl e = absurd (let z : ◌≡◌ {A = ℕ} 0 1 = cc in omega arith)
nodes_shape (list p) sl e =
    let w = whole_good (whole p) _ e in
    record { nodes = items_of p; is = listed p (items_of p) sl w.0 refl; all = all_nodes (items_of p) (slices_items p sl) w.1 }

record_shape : (i : Item) → is_record_item i ≡ true → IsRecord i
record_shape (string s) e = absurd (false≢true e)
record_shape (list p) e = record { content = p; is = refl; sized = leb-true (length (encode (list p))) 300 e }

-- an item that is what its kind asks encodes a value of the kind
pub field_shape : (kind : Kind) (i : Item) → Slice (payload_of i) → field kind i ≡ Good → Shape kind i
unfolding field
field_shape (Uint max) i sl e = uint_shape max i sl (good-if _ e)
field_shape (Bytes n) i sl e = string_shape n i (good-if _ e)
field_shape Address i sl e = address_shape i (good-if _ e)
field_shape SenderAddress i sl e = sender_address_shape i (good-if _ e)
field_shape Endpoint i sl e = endpoint_shape i sl e
field_shape Sender i sl e = sender_shape i sl e
field_shape Nodes i sl e = nodes_shape i sl e
field_shape Record i sl e = record_shape i (good-if _ e)

-- ---- and an item that encodes a value of the kind is what the kind asks

all_good : (is : List Item) → Small is → AllNodes is → each_node is ≡ Good
all_good [] small a = refl
all_good (i ∷ is) small a =
    let n : IsNode i = a.0 in
    let s : length (payload_of i) < 2 ^ 64 = small-first i is small in
    good_both
    (ap (tuple schema.node) n.is ∙ shape_tuple schema.node (string n.address ∷ uint n.udp ∷ uint n.tcp ∷ string n.key ∷ []) (subst (λ (x : Item). length (payload_of x) < 2 ^ 64) n.is s) (node-leaves n.address n.udp n.tcp n.good n.key n.sized))
    (all_good is (small-rest i is small) a.1)

-- an integer's limit fits 64 bits
abbrev pub Limited : Kind → Type 0
Limited (Uint max) = max < 2 ^ 64
Limited (Bytes n) = Unit {0}
Limited Address = Unit {0}
Limited SenderAddress = Unit {0}
Limited Endpoint = Unit {0}
Limited Sender = Unit {0}
Limited Nodes = Unit {0}
Limited Record = Unit {0}

pub shape_field : (kind : Kind) (i : Item) → Limited kind → length (payload_of i) < 2 ^ 64 → Shape kind i → field kind i ≡ Good
unfolding field
shape_field (Uint max) i l s h = ap (λ (x : Item). good_if (is_leaf (Uint max) x)) h.is ∙ ap good_if (shape_uint max h.value l h.fits)
shape_field (Bytes n) i l s h = ap (λ (x : Item). good_if (is_leaf (Bytes n) x)) h.is ∙ ap good_if (eq-eqb (length h.bytes) n h.sized)
shape_field Address i l s h = ap (λ (x : Item). good_if (is_leaf Address x)) h.is ∙ ap good_if h.sized
shape_field SenderAddress i l s h = ap (λ (x : Item). good_if (is_leaf SenderAddress x)) h.is ∙ ap good_if (from_sender h.from h.sized)
shape_field Endpoint i l s h =
    ap (tuple schema.endpoint) h.is
    ∙ shape_tuple schema.endpoint (string h.address ∷ uint h.udp ∷ uint h.tcp ∷ []) (subst (λ (x : Item). length (payload_of x) < 2 ^ 64) h.is s) (endpoint-leaves h.address h.udp h.tcp h.good)
shape_field Sender i l s h =
    ap (tuple schema.sender) h.is
    ∙ shape_tuple schema.sender (string (from_bytes h.from) ∷ uint h.udp ∷ uint h.tcp ∷ []) (subst (λ (x : Item). length (payload_of x) < 2 ^ 64) h.is s) (sender-leaves h.from h.udp h.tcp h.good)
shape_field Nodes i l s h =
    let small : Small h.nodes = subst (λ (x : Item). length (payload_of x) < 2 ^ 64) h.is s in
    ap nodes h.is ∙ rw (whole-encodes h.nodes small, items_encodes h.nodes small) (all_good h.nodes small h.all)
shape_field Record i l s h = ap (λ (x : Item). good_if (is_record_item x)) h.is ∙ ap good_if (le-leb (length (encode (list h.content))) 300 h.sized)

-- ---- the fields of a packet

abbrev pub AllLimited : List Kind → Type 0
AllLimited [] = Unit {0}
AllLimited (kind ∷ kinds) = Limited kind × AllLimited kinds

pub fields_shapes : (required : ℕ) (kinds : List Kind) (is : List Item) → Slices is → fields required kinds is ≡ Good → Shapes required kinds is
fields_shapes required [] is sl e = tt
fields_shapes required (kind ∷ kinds) [] sl e = eqb-true required 0 (good-if _ e)
fields_shapes required (kind ∷ kinds) (i ∷ is) sl e =
    let r = both_good (field kind i) _ e in
    (field_shape kind i sl.0 r.0, fields_shapes (required - 1) kinds is sl.1 r.1)

pub shapes_fields : (required : ℕ) (kinds : List Kind) (is : List Item) → AllLimited kinds → Small is → Shapes required kinds is → fields required kinds is ≡ Good
shapes_fields required [] is l small h = refl
shapes_fields required (kind ∷ kinds) [] l small h = ap good_if (eq-eqb required 0 h)
shapes_fields required (kind ∷ kinds) (i ∷ is) l small h =
    good_both (shape_field kind i l.0 (small-first i is small) h.0) (shapes_fields (required - 1) kinds is l.1 (small-rest i is small) h.1)
