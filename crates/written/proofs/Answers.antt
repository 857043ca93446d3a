-- The answer of a writer, and the buffer it leaves, by the tests that led there.
use Prim.Native.Nat.{ℕ, ◌+◌, ◌≤◌, ◌<◌}
use mathlib.Core.Path.{◌≡◌, refl, ap, ◌∙◌}
use mathlib.Core.Bool.{Bool, true, false}
use native.Mathlib.Omega.{arith}
use borrow.Author.Tests.{le-leb, lt-leb}
use lib.Dec.{leb}
use lib.ListN.{length}
use Rattle.octets.specs.Octets.{Bytes, store}
use Rattle.lists.proofs.Laws.{by_test}
use Rattle.written.specs.Written.{written, written_in, WrittenKept}
use Rattle.std.specs.Prelude.{Result, Ok, Err}
use Rattle.written.specs.declared.WriteError.{WriteError}
use Rattle.written.specs.declared.WriteError.TheVariants.{Short, Unwritable}

-- a writer answered r and left exit
abbrev pub Answered : Bool → Bytes → Bytes → Result ℕ WriteError → Bytes → Type 0
Answered ok bytes buf r exit = (r ≡ written ok bytes buf) × (exit ≡ written_in ok bytes buf)

module _ (ok : Bool) (bytes buf : Bytes) where
  pub done : ok ≡ true → {exit : Bytes} {n : ℕ} → length bytes ≤ length buf → (n ≡ 0 + length bytes) × (exit ≡ store buf 0 bytes) → Answered ok bytes buf (Ok n) exit
  unfolding written written_in
  done t l w = rw (t, le-leb (length bytes) (length buf) l) (ap Ok (w.0 ∙ omega arith), w.1)

  pub short : ok ≡ true → length buf < length bytes → Answered ok bytes buf (Err Short) buf
  unfolding written written_in
  short t l = rw (t, lt-leb (length bytes) (length buf) l) (refl, refl)

  pub refused : ok ≡ false → Answered ok bytes buf (Err Unwritable) buf
  unfolding written written_in
  refused f = rw f (refl, refl)

pub written_kept : WrittenKept
unfolding written written_in
written_kept =
    record {
      number_listed = λ ok bytes buf.
          by_test ok
          (λ t. by_test (leb (length bytes) (length buf)) (λ l. rw (t, l) refl) (λ l. rw (t, l) refl))
          (λ t. rw t refl);
      refused_unchanged = λ ok bytes buf.
          by_test ok
          (λ t. by_test (leb (length bytes) (length buf)) (λ l. rw (t, l) (λ h. absurd (h refl))) (λ l. rw (t, l) (λ h. refl)))
          (λ t. rw t (λ h. refl));
    }
