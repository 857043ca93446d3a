-- A part of a byte string by its place.
use Rattle.std.specs.Prelude.{ℕ, ◌+◌, cond, [], leb, length}
use Rattle.octets.specs.Octets.{Bytes, part}
use Rattle.packet_span.specs.declared.Span.{Span}

-- the bytes of s that a span names; none where it does not lie inside
abbrev pub bytes_of : Bytes → Span → Bytes
bytes_of s span = cond (leb (span.start + span.len) (length s)) (part s span.start span.len) []

abbrev pub moved : ℕ → Span → Span
moved by span = record { start = by + span.start; len = span.len }
