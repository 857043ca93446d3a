-- A datagram is accepted exactly if its type byte and data encode the fields, and the answers of those that are not.
use Prim.Native.Nat.{ℕ, ◌+◌, ◌≤◌}
use Rattle.std.specs.Prelude.{Option, Some, None}
use mathlib.Core.Path.{◌≡◌, refl, sym, ap, subst, ◌∙◌}
use native.Mathlib.Decide.{dec_lt}
use native.Mathlib.Omega.{arith}
use lib.ListN.{length, drop, get_or, get_or-eq_default}
use Rattle.octets.specs.Octets.{Bytes, Slice}
use Rattle.octets.proofs.Laws.{slice_drop}
use Rattle.rlp.proofs.Cases.{by_eqb}
use Rattle.packet_schema.specs.Schema.{verdict}
use Rattle.packet_kinds.specs.declared.Verdict.{Verdict}
use Rattle.packet_kinds.specs.declared.Verdict.TheVariants.{Good, Wrong, Broken}
use Rattle.packet_schema.proofs.Torn.{broken-torn, torn-broken}
use Rattle.packet_span.specs.Parts.{bytes_of}
use Rattle.packet_fields.specs.Spans.{span_of}
use Rattle.packet.specs.Packets.{type_of, byte_of, required_of, schema_of, packet_of, answered, read_as, read_typed}
use Rattle.packet.specs.Accepted.{Fields, ping, pong, find_node, neighbors, enr_request, enr_response, fields_of, ping_fields, pong_fields, find_node_fields, neighbors_fields, enr_request_fields, enr_response_fields}
use Rattle.packet.specs.declared.PacketType.{PacketType}
use Rattle.packet.specs.declared.PacketType.TheVariants as type
use Rattle.packet.specs.declared.Packet.{Packet}
use Rattle.packet.specs.declared.Packet.TheVariants as packet
use Rattle.packet.specs.declared.Parsed.{Parsed}
use Rattle.packet.specs.declared.Parsed.TheVariants as parsed
use Rattle.packet.proofs.Accepted.{type_in, read_type}
use Rattle.packet.proofs.Inversion.{ping-accepted, pong-accepted, find-node-accepted, enr-request-accepted, enr-response-accepted}
use Rattle.packet.proofs.NodeLists.{neighbors-accepted}
use Rattle.packet_datagram.specs.Datagram.{packet_in}
use Rattle.packet_datagram.specs.Acceptance.{Reads, EncodedIn, Acceptance, TypeKnown, TornIn, EightExactly, NineExactly, TenExactly}

-- ---- the type byte

type-of : (t : PacketType) → type_of (byte_of t) ≡ Some t
unfolding type_of
type-of type.Ping = refl
type-of type.Pong = refl
type-of type.FindNode = refl
type-of type.Neighbors = refl
type-of type.EnrRequest = refl
type-of type.EnrResponse = refl

-- what a type byte is known as
abbrev Named : ℕ → Option PacketType → Type 0
Named b (Some t) = b ≡ byte_of t
Named b None = Unit {0}

named : (b : ℕ) → Named b (type_of b)
unfolding type_of
named b =
    by_eqb (Named b) b 1 (λ e. e) (λ _. by_eqb (Named b) b 2 (λ e. e) (λ _. by_eqb (Named b) b 3 (λ e. e)
    (λ _. by_eqb (Named b) b 4 (λ e. e) (λ _. by_eqb (Named b) b 5 (λ e. e) (λ _. by_eqb (Named b) b 6 (λ e. e) (λ _. tt))))))

by_name : (b : ℕ) (t : PacketType) → type_of b ≡ Some t → b ≡ byte_of t
by_name b t e = subst (Named b) e (named b)

some_byte : (t : PacketType) → byte_of t ≡ 0 → ⊥
some_byte type.Ping e = omega arith
some_byte type.Pong e = omega arith
some_byte type.FindNode e = omega arith
some_byte type.Neighbors e = omega arith
some_byte type.EnrRequest e = omega arith
some_byte type.EnrResponse e = omega arith

module _ (g : Bytes) (t : PacketType) (e : get_or g 97 0 ≡ byte_of t) where
  -- a datagram with a type is long enough for it
  long-enough : 98 ≤ length g
  long-enough = elim (dec_lt 97 (length g)) [
    | yes l ↦ omega arith
    | no l ↦ absurd (some_byte t (sym e ∙ get_or-eq_default g 0 {n = 97} (omega arith)))
  ]

  reads_as : packet_in g ≡ read_as t 98 (drop 98 g)
  unfolding packet_in
  reads_as = ap (λ (x : Option PacketType). read_typed x 98 (drop 98 g)) (ap type_of e ∙ type-of t)

-- ---- accepted

module _ (g : Bytes) (sl : Slice g) where
  read_named : (p : Packet) → packet_in g ≡ parsed.Packet p → get_or g 97 0 ≡ byte_of (type_in p)
  unfolding packet_in
  read_named p e = by_name (get_or g 97 0) (type_in p) (read_type (type_of (get_or g 97 0)) 98 (drop 98 g) p e)

  encoded : (p : Packet) → packet_in g ≡ parsed.Packet p → EncodedIn g (fields_of g p)
  encoded p e = go p e (read_named p e)
    where
      go : (p : Packet) → packet_in g ≡ parsed.Packet p → get_or g 97 0 ≡ byte_of (type_in p) → EncodedIn g (fields_of g p)
      go (packet.Ping p) e b =
          record { type_byte = b; begins = (ping-accepted g 98 sl (long-enough g type.Ping b) (ping_fields g p)).0 (p, sym (reads_as g type.Ping b) ∙ e, refl) }
      go (packet.Pong p) e b =
          record { type_byte = b; begins = (pong-accepted g 98 sl (long-enough g type.Pong b) (pong_fields g p)).0 (p, sym (reads_as g type.Pong b) ∙ e, refl) }
      go (packet.FindNode p) e b =
          record { type_byte = b; begins = (find-node-accepted g 98 sl (long-enough g type.FindNode b) (find_node_fields g p)).0 (p, sym (reads_as g type.FindNode b) ∙ e, refl) }
      go (packet.Neighbors p) e b =
          record { type_byte = b; begins = (neighbors-accepted g 98 sl (long-enough g type.Neighbors b) (neighbors_fields g p)).0 (p, sym (reads_as g type.Neighbors b) ∙ e, refl) }
      go (packet.EnrRequest p) e b =
          record { type_byte = b; begins = (enr-request-accepted g 98 sl (long-enough g type.EnrRequest b) (enr_request_fields p)).0 (p, sym (reads_as g type.EnrRequest b) ∙ e, refl) }
      go (packet.EnrResponse p) e b =
          record { type_byte = b; begins = (enr-response-accepted g 98 sl (long-enough g type.EnrResponse b) (enr_response_fields g p)).0 (p, sym (reads_as g type.EnrResponse b) ∙ e, refl) }

  reads : (f : Fields) → EncodedIn g f → Reads g f
  reads (ping f) h =
      let a = (ping-accepted g 98 sl (long-enough g type.Ping h.type_byte) f).1 h.begins in
      record { packet = packet.Ping a.0; is = reads_as g type.Ping h.type_byte ∙ a.1; fields = ap ping a.2 }
  reads (pong f) h =
      let a = (pong-accepted g 98 sl (long-enough g type.Pong h.type_byte) f).1 h.begins in
      record { packet = packet.Pong a.0; is = reads_as g type.Pong h.type_byte ∙ a.1; fields = ap pong a.2 }
  reads (find_node f) h =
      let a = (find-node-accepted g 98 sl (long-enough g type.FindNode h.type_byte) f).1 h.begins in
      record { packet = packet.FindNode a.0; is = reads_as g type.FindNode h.type_byte ∙ a.1; fields = ap find_node a.2 }
  reads (neighbors f) h =
      let a = (neighbors-accepted g 98 sl (long-enough g type.Neighbors h.type_byte) f).1 h.begins in
      record { packet = packet.Neighbors a.0; is = reads_as g type.Neighbors h.type_byte ∙ a.1; fields = ap neighbors a.2 }
  reads (enr_request f) h =
      let a = (enr-request-accepted g 98 sl (long-enough g type.EnrRequest h.type_byte) f).1 h.begins in
      record { packet = packet.EnrRequest a.0; is = reads_as g type.EnrRequest h.type_byte ∙ a.1; fields = ap enr_request a.2 }
  reads (enr_response f) h =
      let a = (enr-response-accepted g 98 sl (long-enough g type.EnrResponse h.type_byte) f).1 h.begins in
      record { packet = packet.EnrResponse a.0; is = reads_as g type.EnrResponse h.type_byte ∙ a.1; fields = ap enr_response a.2 }

pub acceptance : Acceptance
acceptance g sl f = ((λ r. subst (EncodedIn g) r.fields (encoded g sl r.packet r.is)), reads g sl f)

-- ---- refused

differ : {A : Type 0} {m n : ℕ} → parsed.Refused m ≡ parsed.Refused n → (m ≡ n → ⊥) → A
differ e n = absurd (n cc)

no_packet : {A : Type 0} {n : ℕ} {p : Packet} → parsed.Packet p ≡ parsed.Refused n → A
no_packet e = absurd (let z : ◌≡◌ {A = ℕ} 0 1 = cc in omega arith)

-- by the verdict
is_broken : (v : Verdict) (p : Packet) → answered v p ≡ parsed.Refused 9 → v ≡ Broken
is_broken Good p e = no_packet e
is_broken Broken p e = refl
is_broken Wrong p e = differ e (λ (n : 10 ≡ 9). omega arith)

is_wrong : (v : Verdict) (p : Packet) → answered v p ≡ parsed.Refused 10 → v ≡ Wrong
is_wrong Good p e = no_packet e
is_wrong Broken p e = differ e (λ (n : 9 ≡ 10). omega arith)
is_wrong Wrong p e = refl

not_unknown : (v : Verdict) (p : Packet) → answered v p ≡ parsed.Refused 8 → ⊥
not_unknown Good p e = no_packet e
not_unknown Broken p e = differ e (λ (n : 9 ≡ 8). omega arith)
not_unknown Wrong p e = differ e (λ (n : 10 ≡ 8). omega arith)

module _ (g : Bytes) where
  abbrev d : Bytes
  d = drop 98 g

  -- the verdict of each type, and its packet
  abbrev by : PacketType → Verdict
  by t = verdict (required_of t) (schema_of t) d

  abbrev found : PacketType → Packet
  found t = packet_of t (98 + (span_of 0 d).start) (bytes_of d (span_of 0 d))

  answer : (t : PacketType) → get_or g 97 0 ≡ byte_of t → packet_in g ≡ answered (by t) (found t)
  unfolding read_as
  answer t b = reads_as g t b

  -- the type of an answer other than 8
  known_by : (x : Option PacketType) (y : Parsed) → (parsed.Refused 8 ≡ y → ⊥) → read_typed x 98 d ≡ y → (t : PacketType) × (x ≡ Some t)
  known_by (Some t) y n e = (t, refl)
  known_by None y n e = absurd (n e)

  type-known : (y : Parsed) → (parsed.Refused 8 ≡ y → ⊥) → packet_in g ≡ y → TypeKnown g
  unfolding packet_in
  type-known y n e =
      let r = known_by (type_of (get_or g 97 0)) y n e in
      (r.0, by_name (get_or g 97 0) r.0 r.1)

pub eight_exactly : EightExactly
unfolding packet_in
eight_exactly g = (
  (λ e k. not_unknown (by g k.0) (found g k.0) (sym (answer g k.0 k.1) ∙ e)),
  (λ n. go (type_of (get_or g 97 0)) (λ t e. n (t, by_name (get_or g 97 0) t e)) refl),
)
  where
    go : (x : Option PacketType) → ((t : PacketType) → type_of (get_or g 97 0) ≡ Some t → ⊥) → type_of (get_or g 97 0) ≡ x → packet_in g ≡ parsed.Refused 8
    go (Some t) n e = absurd (n t e)
    go None n e = ap (λ (x : Option PacketType). read_typed x 98 (drop 98 g)) e

pub nine_exactly : NineExactly
nine_exactly g sl = (
  (λ e.
      let k = type-known g (parsed.Refused 9) (λ z. differ z (λ (n : 8 ≡ 9). omega arith)) e in
      let v = is_broken (by g k.0) (found g k.0) (sym (answer g k.0 k.1) ∙ e) in
      (k.0, k.1, broken-torn (drop 98 g) (slice_drop 98 g sl) (required_of k.0) (schema_of k.0) v)),
  (λ t.
      answer g t.0 t.1
      ∙ ap (λ (v : Verdict). answered v (found g t.0)) (torn-broken (drop 98 g) (slice_drop 98 g sl) (required_of t.0) (schema_of t.0) t.2)),
)

pub ten_exactly : TenExactly
ten_exactly g sl = (
  (λ e. (
    type-known g (parsed.Refused 10) (λ z. differ z (λ (n : 8 ≡ 10). omega arith)) e,
    (λ t. differ (sym ((nine_exactly g sl).1 t) ∙ e) (λ (n : 9 ≡ 10). omega arith)),
    (λ r. let a = reads g sl r.0 r.1 in no_packet (sym a.is ∙ e)),
  )),
  (λ h. go (by g h.0.0) h refl),
)
  where
    go : (v : Verdict) (h : TypeKnown g × (¬ TornIn g) × (¬ ((f : Fields) × EncodedIn g f))) → by g h.0.0 ≡ v → packet_in g ≡ parsed.Refused 10
    go Good h e =
        let p = found g h.0.0 in
        absurd (h.2 (fields_of g p, encoded g sl p (answer g h.0.0 h.0.1 ∙ ap (λ (v : Verdict). answered v p) e)))
    go Broken h e =
        absurd (h.1 (h.0.0, h.0.1, broken-torn (drop 98 g) (slice_drop 98 g sl) (required_of h.0.0) (schema_of h.0.0) e))
    go Wrong h e = answer g h.0.0 h.0.1 ∙ ap (λ (v : Verdict). answered v (found g h.0.0)) e
