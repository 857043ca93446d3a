-- What is written fits a code, and a body with enr-seq. Assumes nothing.
use mathlib.Core.Path.{◌≡◌, refl, ap, ◌∙◌}
use mathlib.Core.Bool.{Bool, true, false}
use Prim.Native.Nat.{ℕ, ◌≤◌, ◌<◌, ◌^◌}
use native.Mathlib.Omega.{arith}
use lib.Dec.{leb}
use lib.ListN.{length}
use Rattle.octets.specs.Octets.{Bytes}
use Rattle.lists.proofs.Laws.{by_test}
use Rattle.std.specs.Prelude.{Option, Result}
use Rattle.written.specs.Written.{written, written_in, written_size}
use Rattle.written.specs.declared.WriteError.{WriteError}
use Rattle.packet_join.specs.Join.{can_join, datagram}
use Rattle.packet_join.proofs.Datagrams.{signature_size, body_size, datagram-length}
use Rattle.packet.specs.Accepted.{SeqFits, Fields}
use Rattle.packet_laws.specs.Bodies.{WrittenBody}
use Rattle.packet_laws.proofs.Sizes.{body_range}
use Rattle.capi_codes.specs.Codes.{written_code, seq_of}

size_if : (ok : Bool) (bytes buf : Bytes) → (ok ≡ true → length bytes ≤ 1280) → written_size (written ok bytes buf) ≤ 1280
unfolding written
size_if true bytes buf h = by_test (leb (length bytes) (length buf)) (λ t. rw t (h refl)) (λ t. rw t (omega arith))
size_if false bytes buf h = omega arith

module _ (ok : Bool) (bytes buf : Bytes) {w : Result ℕ WriteError} (e : w ≡ written ok bytes buf) where
  -- a writable value of at most 1,280 bytes
  pub short-fits : (ok ≡ true → length bytes ≤ 1280) → written_size w < 2 ^ 24
  short-fits h = rw e (omega (arith, size_if ok bytes buf h))

  -- a packet's body
  pub body-fits : {f : Fields} → (ok ≡ true → WrittenBody bytes f) → written_size w < 2 ^ 24
  body-fits h = short-fits (λ t. omega (arith, (body_range (h t)).1))

pub joined_size : (s b : Bytes) → can_join s b ≡ true → length (datagram s b) ≤ 1280
joined_size s b ok = omega (arith, datagram-length s b, signature_size s b ok, (body_size s b ok).1)

pub seq_fits : (present : Bool) (n : ℕ) → n < 2 ^ 64 → {e : Option ℕ} → e ≡ seq_of present n → SeqFits e
seq_fits true n h e = rw e h
seq_fits false n h e = rw e tt

-- a write of a body with enr-seq, by the enr-seq that C passed
pub by_seq : (ok : Bool) (body : Option ℕ → Bytes) (buf : Bytes) {s t : Option ℕ} {w : Result ℕ WriteError} {after : Bytes} {r : ℕ}
    → s ≡ t → (w ≡ written ok (body s) buf) × (after ≡ written_in ok (body s) buf) → r ≡ written_code w
    → (r ≡ written_code (written ok (body t) buf)) × (after ≡ written_in ok (body t) buf)
by_seq ok body buf e ew er =
    (er ∙ ap written_code (ew.0 ∙ ap (λ (s : Option ℕ). written ok (body s) buf) e), ew.1 ∙ ap (λ (s : Option ℕ). written_in ok (body s) buf) e)
