use mathlib.Core.Path.{◌≡◌}
use Prim.Native.Nat.{◌^◌, ◌<◌}
use Rattle.octets.specs.Octets.{part, number}
use Rattle.octets.proofs.number_at.Given as goal

abbrev pub invariant-loop-b : goal.invariant-loop-b
invariant-loop-b l = (l.value < 256 ^ l.b-index) × (l.value ≡ number (part l.bytes l.at l.b-index))
