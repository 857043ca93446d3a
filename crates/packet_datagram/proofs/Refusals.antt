-- A packet that is refused has a number from 8 to 11.
use Prim.Native.Nat.{ℕ, ◌≤◌}
use Rattle.std.specs.Prelude.{Option, Some, None}
use native.Mathlib.Omega.{arith}
use lib.ListN.{drop, get_or}
use Rattle.octets.specs.Octets.{Bytes}
use Rattle.lists.proofs.Laws.{by_test}
use Rattle.node.specs.declared.UnixSeconds.{UnixSeconds}
use Rattle.packet_schema.specs.Schema.{verdict}
use Rattle.packet_kinds.specs.declared.Verdict.{Verdict}
use Rattle.packet_kinds.specs.declared.Verdict.TheVariants.{Good, Wrong, Broken}
use Rattle.packet.specs.Packets.{type_of, required_of, schema_of, answered, read_as, read_typed}
use Rattle.packet.specs.declared.PacketType.{PacketType}
use Rattle.packet.specs.declared.Packet.{Packet}
use Rattle.packet.specs.declared.Parsed.{Parsed}
use Rattle.packet.specs.declared.Parsed.TheVariants as parsed
use Rattle.packet_datagram.specs.Datagram.{packet_in, is_expired, in_time, read_at}

abbrev pub Refusable : Parsed → Type 0
Refusable (parsed.Packet p) = Unit {0}
Refusable (parsed.Refused n) = (8 ≤ n) × (n ≤ 11)

of_verdict : (v : Verdict) (p : Packet) → Refusable (answered v p)
of_verdict Good p = tt
of_verdict Broken p = (omega arith, omega arith)
of_verdict Wrong p = (omega arith, omega arith)

of_data : (t : Option PacketType) (base : ℕ) (d : Bytes) → Refusable (read_typed t base d)
unfolding read_as
of_data (Some t) base d = of_verdict (verdict (required_of t) (schema_of t) d) _
of_data None base d = (omega arith, omega arith)

of_time : (x : Parsed) (unix : UnixSeconds) → Refusable x → Refusable (in_time x unix)
of_time (parsed.Packet p) unix h = by_test (is_expired p unix) (λ k. rw k (omega arith, omega arith)) (λ k. rw k tt)
of_time (parsed.Refused n) unix h = h

pub refusable : (g : Bytes) (unix : UnixSeconds) → Refusable (read_at g unix)
unfolding packet_in
refusable g unix = of_time (packet_in g) unix (of_data (type_of (get_or g 97 0)) 98 (drop 98 g))
