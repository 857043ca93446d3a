-- Laws of the bytes of a span.
use Prim.Native.Nat.{ℕ, ◌+◌, ◌-◌, ◌≤◌, ◌<◌}
use mathlib.Core.Path.{◌≡◌, sym, ap, ◌∙◌}
use mathlib.Core.List.{[]}
use native.Mathlib.Nat.{add-sub_cancel_left}
use borrow.Author.Tests.{le-leb, lt-leb}
use lib.ListN.{length, take, drop}
use Rattle.octets.specs.Octets.{Bytes, part}
use Rattle.packet_span.specs.Parts.{bytes_of}
use Rattle.packet_span.specs.declared.Span.{Span}

-- a span that lies inside
pub bytes_in : (s : Bytes) (span : Span) → span.start + span.len ≤ length s → bytes_of s span ≡ part s span.start span.len
bytes_in s span h = rw (le-leb (span.start + span.len) (length s) h)

pub bytes_out : (s : Bytes) (span : Span) → length s < span.start + span.len → [] ≡ bytes_of s span
bytes_out s span h = rw (lt-leb (span.start + span.len) (length s) h)

-- the part of the slice that the code takes
pub bytes_part : (s : Bytes) (span : Span) → span.start + span.len ≤ length s → take (span.start + span.len - span.start) (drop span.start s) ≡ bytes_of s span
unfolding part
bytes_part s span h =
    ap (λ (k : ℕ). take k (drop span.start s)) (add-sub_cancel_left span.start span.len) ∙ sym (bytes_in s span h)
