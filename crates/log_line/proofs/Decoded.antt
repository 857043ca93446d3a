-- A field that is decoded. Assumes nothing.
use Prim.Native.Nat.{ℕ, ◌-◌, ◌≤◌}
use mathlib.Core.Path.{◌≡◌, ap}
use native.Mathlib.Omega.{arith}
use lib.ListN.{length, take, drop, replicate, length-take, length-drop, length-replicate}
use Rattle.octets.specs.Octets.{Bytes, part, store}
use Rattle.octets.proofs.Laws.{part-store}
use Rattle.text.specs.Hex.{unhex}
use Rattle.text.proofs.Hex.{length-unhex}
use Rattle.packet_span.specs.declared.Span.{Span}
use Rattle.log_line.specs.Fields.{text, said}

pub said_of : (line : Bytes) (f : Span) {t : Bytes} → t ≡ text line f → unhex t ≡ said line f
unfolding said
said_of line f e = ap unhex e

-- a field of a line within the limit fits 1,500 bytes
pub said_size : (line : Bytes) (f : Span) → length line ≤ 3000 → length (said line f) ≤ 1500
unfolding said part
said_size line f h =
    omega (arith, length-unhex (text line f), length-take f.len (drop f.start line), length-drop f.start line)

-- what was decoded is found there
pub decoded : {s buf : Bytes} {n : ℕ} → (n ≡ length s) × ((buf ≡ store (replicate 1500 0) 0 s) × (n ≤ 1500)) → take (n - 0) (drop 0 buf) ≡ s
unfolding part
decoded {s} {buf} {n} h =
    let k : n - 0 ≡ length s = omega (arith, h.0) in
    rw (k, h.1.0) (part-store s (replicate 1500 0) 0 (omega (arith, h.0, h.1.1, length-replicate {A = ℕ} 1500 0)))
