-- The line begun where a chunk of an input ends.
use Rattle.std.specs.Prelude.{ℕ, ◌≡◌}
use Rattle.octets.specs.Octets.{Bytes}
use Rattle.log_lines.specs.Steps.{fresh, step_of}
use Rattle.log_lines.specs.declared.Begun.{Begun}
use Rattle.log_lines.specs.declared.Step.TheVariants as step

-- the chunk from index at, where b is the line begun, ends in the line begun e: after each line that ends none is begun, and the chunk goes on behind its 0A
pub data Ends (chunk : Bytes) : Begun → ℕ → Begun → Type 0 where
  line : {b e : Begun} {at : ℕ} (len next : ℕ) → step_of b chunk at ≡ step.Line len next → Ends chunk fresh next e → Ends chunk b at e
  long : {b e : Begun} {at : ℕ} (next : ℕ) → step_of b chunk at ≡ step.TooLong next → Ends chunk fresh next e → Ends chunk b at e
  more : {b e : Begun} {at : ℕ} → step_of b chunk at ≡ step.More e → Ends chunk b at e
