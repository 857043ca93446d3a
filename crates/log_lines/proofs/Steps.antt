-- What `next_line` finds is the step. Assumes nothing.
use Prim.Native.Nat.{ℕ, ◌+◌, ◌-◌, ◌<◌}
use mathlib.Core.Path.{◌≡◌, refl, ap, ◌∙◌}
use mathlib.Core.Bool.{true, false}
use native.Mathlib.Omega.{arith}
use borrow.Author.Tests.{lt-ltb, le-ltb}
use lib.ListN.{length, take, drop}
use Rattle.octets.specs.Octets.{Bytes}
use Rattle.text.specs.Marks.{until}
use Rattle.text.proofs.Marks.{take-until}
use Rattle.log_lines.specs.declared.Begun.{Begun}
use Rattle.log_lines.specs.declared.Step.TheVariants.{Line, TooLong, More}
use Rattle.log_lines.specs.Steps.{piece, grown, added, step_of, buffer_after}

-- the piece from an index is what stands before the next 0A
pub cut_at : (chunk : Bytes) (at : ℕ) → at + length (until 0x0a at chunk) ≡ at + length (piece (drop at chunk))
unfolding piece until
cut_at chunk at = refl

module _ (buffer : Bytes) (b : Begun) (chunk : Bytes) (at end : ℕ) (e : end ≡ at + length (piece (drop at chunk))) where
  -- the part that is added is the piece
  same-piece : take (end - at) (drop at chunk) ≡ piece (drop at chunk)
  unfolding piece until
  same-piece = take-until 0x0a chunk at end e

  pub buffer-is : (after : Bytes) → after ≡ added buffer b (take (end - at) (drop at chunk)) → after ≡ buffer_after buffer b chunk at
  unfolding buffer_after
  buffer-is after f = f ∙ ap (added buffer b) same-piece

  module _ (more : Begun) (f : more ≡ grown b (length (take (end - at) (drop at chunk)))) where
    grows : more ≡ grown b (length (piece (drop at chunk)))
    grows = f ∙ ap (λ (p : Bytes). grown b (length p)) same-piece

    pub step-more : end ≡ length chunk → More more ≡ step_of b chunk at
    unfolding step_of
    step-more h = rw (le-ltb (at + length (piece (drop at chunk))) (length chunk) (omega arith)) (ap More grows)

    pub step-long : end < length chunk → more.over ≡ true → TooLong (end + 1) ≡ step_of b chunk at
    unfolding step_of
    step-long h o = rw (lt-ltb (at + length (piece (drop at chunk))) (length chunk) (omega arith), ← grows, o) (ap (λ (n : ℕ). TooLong (n + 1)) e)

    pub step_line : end < length chunk → more.over ≡ false → Line more.len (end + 1) ≡ step_of b chunk at
    unfolding step_of
    step_line h o = rw (lt-ltb (at + length (piece (drop at chunk))) (length chunk) (omega arith), ← grows, o) (ap (λ (n : ℕ). Line more.len (n + 1)) e)
