use mathlib.Core.Path.{◌≡◌}
use mathlib.Core.Bool.{true}
use Prim.Native.Nat.{ℕ, ◌≤◌, ◌<◌}
use Rattle.table_model.specs.Sound.{bucket_sound}
use Rattle.table_sound.proofs.buckets_sound.Given as goal

abbrev pub invariant-loop-slot : goal.invariant-loop-slot
invariant-loop-slot l = (l.slot ≤ l.count) × ((k : ℕ) → k < l.slot → bucket_sound l.bytes k ≡ true)
