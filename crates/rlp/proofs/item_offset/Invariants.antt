use Prim.Native.Nat.{◌+◌, ◌-◌, ◌≤◌}
use mathlib.Core.Path.{◌≡◌}
use lib.ListN.{length, drop}
use Rattle.rlp.specs.Reading.{offset}
use Rattle.rlp.proofs.item_offset.Given as goal

abbrev pub invariant-loop : goal.invariant-loop
invariant-loop l = (l.at ≤ length l.s) × (l.at + offset (l.n - l.counter) (drop l.at l.s) ≡ offset l.n l.s)
