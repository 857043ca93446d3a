use Prim.Native.Nat.{◌+◌, ◌*◌, ◌-◌, ◌≤◌}
use mathlib.Core.Path.{◌≡◌}
use Rattle.bucket_model.specs.Contents.{entries_at}
use Rattle.bucket_model.specs.Sound.{ranges_kept}
use Rattle.bucket_range.proofs.ranges_kept.Given as goal

abbrev pub invariant-loop-i : goal.invariant-loop-i
invariant-loop-i l = (l.i ≤ l.n) × (ranges_kept (entries_at l.bytes l.at l.n) ≡ ranges_kept (entries_at l.bytes (l.at + l.i * 143) (l.n - l.i)))
