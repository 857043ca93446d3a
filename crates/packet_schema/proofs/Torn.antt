-- Data is broken exactly if it is torn: if it, or a list in it that is read, is not the encoding of whole items.
use Prim.Native.Nat.{ℕ, ◌-◌}
use Rattle.std.specs.Prelude.{Option, Some, None}
use mathlib.Core.Path.{◌≡◌, refl, sym, ap, subst, ◌∙◌}
use mathlib.Core.Bool.{Bool, true, false, cond, false≢true}
use mathlib.Core.List.{List, [], ◌∷◌}
use mathlib.Core.Logic.{◌⊎◌, inl, inr, ⊎_elim}
use native.Mathlib.Omega.{arith}
use lib.Dec.{eqb}
use lib.ListN.{length}
use Rattle.octets.specs.Octets.{Slice, part}
use Rattle.octets.specs.Octets as octets
use Rattle.octets.proofs.Laws.{slice_part}
use Rattle.rlp.specs.Encoding.{Item, string, list, encodes, payload_of, prefix, Small}
use Rattle.rlp.specs.Reading.{head, whole}
use Rattle.rlp.proofs.Encoding.{read_payload, whole-encodes, whole_is_encodes, small_items}
use Rattle.rlp.specs.declared.Item as read
use Rattle.packet_kinds.specs.Payload.{items_of}
use Rattle.packet_kinds.specs.Kinds.{worst, good_if, is_leaf, leaves, tuple, is_record_item}
use Rattle.packet_kinds.specs.Kinds as schema
use Rattle.packet_schema.specs.Schema.{each_node, nodes, field, fields, verdict_of, verdict}
use Rattle.packet_schema.specs.Shapes.{Begins}
use Rattle.packet_schema.specs.Torn.{IsItems, TornList, AnyTorn, TornNodes, Torn, TornField, TornData}
use Rattle.packet_kinds.specs.declared.Kind.{Kind}
use Rattle.packet_kinds.specs.declared.Kind.TheVariants.{Uint, Bytes, Address, SenderAddress, Endpoint, Sender, Nodes, Record}
use Rattle.packet_kinds.specs.declared.Verdict.{Verdict}
use Rattle.packet_kinds.specs.declared.Verdict.TheVariants.{Good, Wrong, Broken}
use Rattle.packet_kinds.proofs.Payload.{items_encodes, encodes_items, Slices, slices_items}
use Rattle.packet_schema.proofs.Accepted.{small_data, verdict_data, good_accepted}

-- ---- verdicts

good_broken : {A : Type 0} → Good ≡ Broken → A
good_broken e = absurd (let z : ◌≡◌ {A = ℕ} 0 1 = cc in omega arith)

wrong_broken : {A : Type 0} → Wrong ≡ Broken → A
wrong_broken e = absurd (let z : ◌≡◌ {A = ℕ} 0 1 = cc in omega arith)

test_broken : {A : Type 0} (b : Bool) → good_if b ≡ Broken → A
test_broken true e = good_broken e
test_broken false e = wrong_broken e

either_broken : (a b : Verdict) → worst a b ≡ Broken → (a ≡ Broken) ⊎ (b ≡ Broken)
either_broken Good b e = inr e
either_broken Broken b e = inl refl
either_broken Wrong Good e = wrong_broken e
either_broken Wrong Broken e = inr refl
either_broken Wrong Wrong e = wrong_broken e

first_broken : {a : Verdict} (b : Verdict) → a ≡ Broken → worst a b ≡ Broken
first_broken b p = rw p

second_broken : (a : Verdict) {b : Verdict} → b ≡ Broken → worst a b ≡ Broken
second_broken Good p = p
second_broken Broken p = refl
second_broken Wrong p = rw p

list_broken : (w : Bool) (v : Verdict) → cond w v Broken ≡ Broken → (w ≡ false) ⊎ ((w ≡ true) × (v ≡ Broken))
list_broken true v e = inr (refl, e)
list_broken false v e = inl refl

-- ---- lists

module _ (p : octets.Bytes) (sl : Slice p) where
  torn-whole : ¬ IsItems p → whole p ≡ false
  torn-whole n = go (whole p) refl
    where
      go : (w : Bool) → whole p ≡ w → whole p ≡ false
      go true e = let r = whole_is_encodes p sl e in absurd (n (r.0, sym r.1))
      go false e = e

  whole-torn : whole p ≡ false → ¬ IsItems p
  whole-torn e r = false≢true (sym e ∙ ap whole r.1 ∙ whole-encodes r.0 (small_items r.0 p sl (sym r.1)))

tuple_torn : (kinds : List Kind) (i : Item) → Slice (payload_of i) → tuple kinds i ≡ Broken → TornList i
tuple_torn kinds (string s) sl e = wrong_broken e
tuple_torn kinds (list p) sl e =
    ⊎_elim (λ w. whole-torn p sl w) (λ w. test_broken (leaves kinds (items_of p)) w.1) (list_broken (whole p) (good_if (leaves kinds (items_of p))) e)

torn_tuple : (kinds : List Kind) (i : Item) → Slice (payload_of i) → TornList i → tuple kinds i ≡ Broken
torn_tuple kinds (string s) sl t = absurd t
torn_tuple kinds (list p) sl t = rw (torn-whole p sl t)

each_torn : (is : List Item) → Slices is → each_node is ≡ Broken → AnyTorn is
each_torn [] sl e = good_broken e
each_torn (i ∷ is) sl e =
    ⊎_elim (λ b. inl (tuple_torn schema.node i sl.0 b)) (λ b. inr (each_torn is sl.1 b)) (either_broken (tuple schema.node i) (each_node is) e)

torn_each : (is : List Item) → Slices is → AnyTorn is → each_node is ≡ Broken
torn_each [] sl t = absurd t
torn_each (i ∷ is) sl (inl t) = first_broken (each_node is) (torn_tuple schema.node i sl.0 t)
torn_each (i ∷ is) sl (inr t) = second_broken (tuple schema.node i) (torn_each is sl.1 t)

-- items whose encodings are a slice
slices_of : (is : List Item) → Slice (encodes is) → Slices is
slices_of is sl = subst Slices (items_encodes is (small_items is (encodes is) sl refl)) (slices_items (encodes is) sl)

nodes_torn : (i : Item) → Slice (payload_of i) → nodes i ≡ Broken → TornNodes i
nodes_torn (string s) sl e = wrong_broken e
nodes_torn (list p) sl e =
    ⊎_elim (λ w. inl (whole-torn p sl w))
    (λ w. inr (items_of p, ap list (sym (encodes_items p sl w.0)), each_torn (items_of p) (slices_items p sl) w.1))
    (list_broken (whole p) (each_node (items_of p)) e)

torn_list : (i : Item) → Slice (payload_of i) → TornList i → nodes i ≡ Broken
torn_list (string s) sl t = absurd t
torn_list (list p) sl t = rw (torn-whole p sl t)

torn_nodes : (i : Item) → Slice (payload_of i) → TornNodes i → nodes i ≡ Broken
torn_nodes i sl (inl t) = torn_list i sl t
torn_nodes i sl (inr t) =
    let se : Slice (encodes t.0) = subst (λ (x : Item). Slice (payload_of x)) t.1 sl in
    let small : Small t.0 = small_items t.0 (encodes t.0) se refl in
    ap nodes t.1 ∙ rw (whole-encodes t.0 small, items_encodes t.0 small) (torn_each t.0 (slices_of t.0 se) t.2)

-- ---- the fields of a packet

field_torn : (kind : Kind) (i : Item) → Slice (payload_of i) → field kind i ≡ Broken → Torn kind i
unfolding field
field_torn (Uint max) i sl e = test_broken (is_leaf (Uint max) i) e
field_torn (Bytes n) i sl e = test_broken (is_leaf (Bytes n) i) e
field_torn Address i sl e = test_broken (is_leaf Address i) e
field_torn SenderAddress i sl e = test_broken (is_leaf SenderAddress i) e
field_torn Endpoint i sl e = tuple_torn schema.endpoint i sl e
field_torn Sender i sl e = tuple_torn schema.sender i sl e
field_torn Nodes i sl e = nodes_torn i sl e
field_torn Record i sl e = test_broken (is_record_item i) e

torn_field : (kind : Kind) (i : Item) → Slice (payload_of i) → Torn kind i → field kind i ≡ Broken
unfolding field
torn_field (Uint max) i sl t = absurd t
torn_field (Bytes n) i sl t = absurd t
torn_field Address i sl t = absurd t
torn_field SenderAddress i sl t = absurd t
torn_field Endpoint i sl t = torn_tuple schema.endpoint i sl t
torn_field Sender i sl t = torn_tuple schema.sender i sl t
torn_field Nodes i sl t = torn_nodes i sl t
torn_field Record i sl t = absurd t

fields_torn : (required : ℕ) (kinds : List Kind) (is : List Item) → Slices is → fields required kinds is ≡ Broken → TornField kinds is
fields_torn required [] is sl e = good_broken e
fields_torn required (kind ∷ kinds) [] sl e = test_broken (eqb required 0) e
fields_torn required (kind ∷ kinds) (i ∷ is) sl e =
    ⊎_elim (λ b. inl (field_torn kind i sl.0 b)) (λ b. inr (fields_torn (required - 1) kinds is sl.1 b)) (either_broken (field kind i) _ e)

torn_fields : (required : ℕ) (kinds : List Kind) (is : List Item) → Slices is → TornField kinds is → fields required kinds is ≡ Broken
torn_fields required [] is sl t = absurd t
torn_fields required (kind ∷ kinds) [] sl t = absurd t
torn_fields required (kind ∷ kinds) (i ∷ is) sl (inl t) = first_broken (fields (required - 1) kinds is) (torn_field kind i sl.0 t)
torn_fields required (kind ∷ kinds) (i ∷ is) sl (inr t) = second_broken (field kind i) (torn_fields (required - 1) kinds is sl.1 t)

-- ---- packet data

-- data begins with a list of whole items, or not: then it is broken by every schema
list_first : (w : Bool) → (cond w Good Broken ≡ Good) ⊎ ((v : Verdict) → cond w v Broken ≡ Broken)
list_first true = inl refl
list_first false = inr (λ v. refl)

begun_by : (h : Option read.Item) (d : octets.Bytes) → (verdict_of 0 [] h d ≡ Good) ⊎ ((required : ℕ) (kinds : List Kind) → verdict_of required kinds h d ≡ Broken)
begun_by (Some i) d = go i.list
  where
    p : octets.Bytes
    p = part d i.skip i.size

    go : (l : Bool) → (cond l (cond (whole p) Good Broken) Broken ≡ Good) ⊎ ((required : ℕ) (kinds : List Kind) → cond l (cond (whole p) (fields required kinds (items_of p)) Broken) Broken ≡ Broken)
    go true = ⊎_elim (λ e. inl e) (λ e. inr (λ required kinds. e (fields required kinds (items_of p)))) (list_first (whole p))
    go false = inr (λ required kinds. refl)
begun_by None d = inr (λ required kinds. refl)

module _ (d : octets.Bytes) (sl : Slice d) where
  pub small-begun : (is : List Item) → Begins d is → Small is
  small-begun is b = small_data d is (omega (arith, sl.size)) b

  pub slices-begun : (is : List Item) → Begins d is → Slices is
  slices-begun is b =
      let i : Item = list (encodes is) in
      slices_of is (subst Slice (read_payload i b.rest) (slice_part _ (length (prefix i)) (length (encodes is)) (subst Slice b.begins sl)))

  module _ (required : ℕ) (kinds : List Kind) where
    pub broken-torn : verdict required kinds d ≡ Broken → TornData kinds d
    broken-torn e = ⊎_elim whole-list no-list (begun_by (head d) d)
      where
        whole-list : verdict 0 [] d ≡ Good → TornData kinds d
        whole-list g =
            let a = good_accepted 0 [] d sl g in
            let v = verdict_data required kinds d a.items (small-begun a.items a.begins) a.begins in
            inr (a.items, a.begins, fields_torn required kinds a.items (slices-begun a.items a.begins) (sym v ∙ e))

        no-list : ((required : ℕ) (kinds : List Kind) → verdict required kinds d ≡ Broken) → TornData kinds d
        no-list n = inl (λ r. good_broken (sym (verdict_data 0 [] d r.0 (small-begun r.0 r.1) r.1) ∙ n 0 []))

    pub torn-broken : TornData kinds d → verdict required kinds d ≡ Broken
    torn-broken (inl n) =
        ⊎_elim (λ g. let a = good_accepted 0 [] d sl g in absurd (n (a.items, a.begins))) (λ e. e required kinds) (begun_by (head d) d)
    torn-broken (inr t) =
        verdict_data required kinds d t.0 (small-begun t.0 t.1) t.1 ∙ torn_fields required kinds t.0 (slices-begun t.0 t.1) t.2
