-- A packet is accepted exactly if its data begins with the encoding of values of its schema's kinds: what the six theorems share.
use Prim.Native.Nat.{ℕ, ◌+◌, ◌≤◌}
use Rattle.std.specs.Prelude.{Option, Some, None}
use mathlib.Core.Path.{◌≡◌, refl, sym, ap, subst, ◌∙◌}
use mathlib.Core.Logic.{◌↔◌}
use mathlib.Core.List.{List}
use native.Mathlib.Omega.{arith}
use lib.ListN.{length, drop}
use Rattle.octets.specs.Octets.{Bytes, Slice}
use Rattle.octets.proofs.Laws.{slice_drop}
use Rattle.rlp.specs.Encoding.{Item, encodes, Small}
use Rattle.packet_schema.specs.Schema.{verdict}
use Rattle.packet_schema.specs.Shapes.{Begins, Accepted}
use Rattle.packet_kinds.specs.declared.Verdict.{Verdict}
use Rattle.packet_kinds.specs.declared.Verdict.TheVariants.{Good, Wrong, Broken}
use Rattle.packet_schema.proofs.Shapes.{AllLimited}
use Rattle.packet_schema.proofs.Accepted.{small_data, good_accepted, accepted_good}
use Rattle.packet_span.specs.Parts.{bytes_of}
use Rattle.packet_fields.specs.Spans.{span_of}
use Rattle.packet.specs.Packets.{schema_of, required_of, packet_of, answered, read_as, read_typed}
use Rattle.packet.specs.declared.PacketType.{PacketType}
use Rattle.packet.specs.declared.PacketType.TheVariants as type
use Rattle.packet.specs.declared.Packet.{Packet}
use Rattle.packet.specs.declared.Packet.TheVariants as packet
use Rattle.packet.specs.declared.Parsed.TheVariants as parsed
use Rattle.packet.proofs.Values.{Lies, lies_drop, lies-inner, data_payload}

answered_good : (v : Verdict) (x y : Packet) → answered v x ≡ parsed.Packet y → (v ≡ Good) × (x ≡ y)
answered_good Good x y e = (refl, cc)
answered_good Broken x y e = absurd (let z : ◌≡◌ {A = ℕ} 0 1 = cc in omega arith)
answered_good Wrong x y e = absurd (let z : ◌≡◌ {A = ℕ} 0 1 = cc in omega arith)

-- a packet's type
abbrev pub type_in : Packet → PacketType
type_in (packet.Ping p) = type.Ping
type_in (packet.Pong p) = type.Pong
type_in (packet.FindNode p) = type.FindNode
type_in (packet.Neighbors p) = type.Neighbors
type_in (packet.EnrRequest p) = type.EnrRequest
type_in (packet.EnrResponse p) = type.EnrResponse

typed : (t : PacketType) (base : ℕ) (s : Bytes) → type_in (packet_of t base s) ≡ t
typed type.Ping base s = refl
typed type.Pong base s = refl
typed type.FindNode base s = refl
typed type.Neighbors base s = refl
typed type.EnrRequest base s = refl
typed type.EnrResponse base s = refl

-- a packet is read by its own type only
pub read_type : (t : Option PacketType) (base : ℕ) (d : Bytes) (y : Packet) → read_typed t base d ≡ parsed.Packet y → t ≡ Some (type_in y)
unfolding read_as
read_type (Some t) base d y e =
    let r = answered_good (verdict (required_of t) (schema_of t) d) (packet_of t (base + (span_of 0 d).start) (bytes_of d (span_of 0 d))) y e in
    ap Some (sym (typed t (base + (span_of 0 d).start) (bytes_of d (span_of 0 d))) ∙ ap type_in r.1)
read_type None base d y e = absurd (let z : ◌≡◌ {A = ℕ} 0 1 = cc in omega arith)

-- the integer limits of all schemas fit 64 bits
limits : (t : PacketType) → AllLimited (schema_of t)
limits type.Ping = (omega arith, (tt, (tt, (omega arith, (omega arith, tt)))))
limits type.Pong = (tt, (tt, (omega arith, (omega arith, tt))))
limits type.FindNode = (tt, (omega arith, tt))
limits type.Neighbors = (tt, (omega arith, tt))
limits type.EnrRequest = (omega arith, tt)
limits type.EnrResponse = (tt, (tt, tt))

-- the items of data, as the readers meet them: the payload of the data's list lies in g
module _ (g : Bytes) (base : ℕ) (sl : Slice g) (fits : base ≤ length g) where
  -- the data, the payload of its list, and where that begins
  abbrev pub bytes_from : Bytes
  bytes_from = drop base g

  abbrev pub payload : Bytes
  payload = bytes_of bytes_from (span_of 0 bytes_from)

  abbrev pub start : ℕ
  start = base + (span_of 0 bytes_from).start

  pub payload-lies : Lies g start payload
  payload-lies = lies-inner g base bytes_from (lies_drop g base fits) 0

  slice-data : Slice bytes_from
  slice-data = slice_drop base g sl

  pub small_items : (is : List Item) → Begins bytes_from is → Small is
  small_items is b = small_data bytes_from is (omega (arith, slice-data.size)) b

  pub payload-items : (is : List Item) → Begins bytes_from is → payload ≡ encodes is
  payload-items is b = data_payload bytes_from is (small_items is b) b

  -- accepted exactly if the data begins with the encoding of values of the schema's kinds
  pub read-good : (t : PacketType) → Accepted (required_of t) (schema_of t) bytes_from → read_as t base bytes_from ≡ parsed.Packet (packet_of t start payload)
  unfolding read_as
  read-good t a = rw (accepted_good (required_of t) (schema_of t) bytes_from slice-data (limits t) a)

  pub good-read : (t : PacketType) (y : Packet) → read_as t base bytes_from ≡ parsed.Packet y → Accepted (required_of t) (schema_of t) bytes_from × (packet_of t start payload ≡ y)
  unfolding read_as
  good-read t y e =
      let r = answered_good (verdict (required_of t) (schema_of t) bytes_from) (packet_of t start payload) y e in
      (good_accepted (required_of t) (schema_of t) bytes_from slice-data r.0, r.1)

  -- accepted with the fields f exactly if encoded: from what the items show, what they need, and the values that are read
  pub both : {P F : Type 0} (t : PacketType) (C : P → Packet) → ((p q : P) → C p ≡ C q → p ≡ q)
      → (made : P) → packet_of t start payload ≡ C made → (fields_of : P → F) (Encoded : F → Type 0)
      → (Accepted (required_of t) (schema_of t) bytes_from → (f : F) × Encoded f)
      → ((f : F) → Encoded f → Accepted (required_of t) (schema_of t) bytes_from)
      → ((f : F) → Encoded f → fields_of made ≡ f)
      → (f : F) → ((p : P) × (read_as t base bytes_from ≡ parsed.Packet (C p)) × (fields_of p ≡ f)) ↔ Encoded f
  both t C inj made is fields_of Encoded forth back values f = (
    (λ r.
        let a = good-read t (C r.0) r.1 in
        let e = forth a.0 in
        subst Encoded (sym (values e.0 e.1) ∙ ap fields_of (inj made r.0 (sym is ∙ a.1)) ∙ r.2) e.1),
    (λ e. (made, read-good t (back f e) ∙ ap parsed.Packet is, values f e)),
  )
