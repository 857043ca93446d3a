-- What the functions over a payload's fields make of them.
use Prim.Native.Nat.{ℕ, ◌+◌}
use mathlib.Core.Path.{◌≡◌, sym, ap, ◌∙◌}
use Rattle.octets.specs.Octets.{Bytes}
use Rattle.packet_schema.specs.Schema.{verdict}
use Rattle.packet_kinds.specs.declared.Verdict.{Verdict}
use Rattle.packet_kinds.specs.declared.Verdict.TheVariants.{Good}
use Rattle.packet_span.specs.Parts.{bytes_of, moved}
use Rattle.packet_fields.specs.Spans.{span_of, port_item}
use Rattle.packet.specs.Packets.{endpoint_of, schema_of, required_of, packet_of, answered, read_as}
use Rattle.packet.specs.declared.Packet.{Packet}
use Rattle.packet.specs.declared.Parsed.{Parsed}
use Rattle.packet.specs.declared.Parsed.TheVariants as parsed
use Rattle.packet.specs.declared.PacketType.{PacketType}
use Rattle.packet_span.specs.declared.Span.{Span}

-- the endpoint that is item n
module _ (base n : ℕ) (s : Bytes) (span : Span) (e : Bytes) (is : span ≡ span_of n s) (bytes : e ≡ bytes_of s span) where
  inside : e ≡ bytes_of s (span_of n s)
  inside = bytes ∙ ap (bytes_of s) is

  pub endpoint-is : (inner a : Span) (u t : ℕ) → inner ≡ span_of 0 e → a ≡ moved (base + span.start) inner → u ≡ port_item 1 e → t ≡ port_item 2 e
      → record { address = a; udp = u; tcp = t } ≡ endpoint_of base n s
  unfolding endpoint_of
  endpoint-is inner a u t i m p q =
      let pa : a ≡ moved (base + (span_of n s).start) (span_of 0 (bytes_of s (span_of n s))) =
      m ∙ ap (moved (base + span.start)) (i ∙ ap (span_of 0) inside) ∙ ap (λ (x : Span). moved (base + x.start) (span_of 0 (bytes_of s (span_of n s)))) is in
      let pu = p ∙ ap (port_item 1) inside in
      let pt = q ∙ ap (port_item 2) inside in
      λ j. record { address = pa j; udp = pu j; tcp = pt j }

-- packet data that was read
module _ (t : PacketType) (base : ℕ) (d : Bytes) (v : Verdict) (is : v ≡ verdict (required_of t) (schema_of t) d) where
  abbrev accepted : Packet
  accepted = packet_of t (base + (span_of 0 d).start) (bytes_of d (span_of 0 d))

  pub read-verdict : answered v accepted ≡ read_as t base d
  unfolding read_as
  read-verdict = rw (← is)

  pub read-good : v ≡ Good → (span : Span) (p : Bytes) (x : Packet) → span ≡ span_of 0 d → p ≡ bytes_of d span → x ≡ packet_of t (base + span.start) p → parsed.Packet x ≡ read_as t base d
  read-good g span p x s e q =
      ap parsed.Packet (q ∙ ap (packet_of t (base + span.start)) e ∙ ap (λ (y : Span). packet_of t (base + y.start) (bytes_of d y)) s)
      ∙ sym (ap (λ (w : Verdict). answered w accepted) g)
      ∙ read-verdict

  pub read-refused : {x : Parsed} → ((w : Packet) → answered v w ≡ x) → x ≡ read_as t base d
  read-refused h = sym (h accepted) ∙ read-verdict
