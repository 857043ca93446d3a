use mathlib.Core.Path.{◌≡◌}
use Prim.Native.Nat.{◌≤◌}
use lib.ListN.{length, drop}
use Rattle.counters.specs.History.{counted}
use Rattle.counted_burst.proofs.raise_all.Given as goal

abbrev pub invariant-loop-number : goal.invariant-loop-number
invariant-loop-number l = (l.number-index ≤ length l.numbers) × (counted l.raised (drop l.number-index l.numbers) ≡ counted l.initial.raised l.numbers)
