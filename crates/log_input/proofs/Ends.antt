-- The line begun in a chunk. Assumes nothing.
use Prim.Native.Nat.{ℕ}
use mathlib.Core.Path.{◌≡◌}
use Rattle.octets.specs.Octets.{Bytes}
use Rattle.log_lines.specs.declared.Begun.{Begun}
use Rattle.log_lines.specs.Steps.{fresh}
use Rattle.log_input.specs.Ends.{Ends}

-- the chunk goes on behind a line that ended
pub after_line : {chunk : Bytes} {b e : Begun} {at next : ℕ} → b ≡ fresh → at ≡ next → Ends chunk b at e → Ends chunk fresh next e
after_line eb ea = rw (eb, ea) (λ h. h)
