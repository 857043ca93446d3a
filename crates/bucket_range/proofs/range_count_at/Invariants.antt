use Prim.Native.Nat.{◌+◌, ◌*◌, ◌-◌, ◌≤◌}
use mathlib.Core.Path.{◌≡◌}
use Rattle.bucket_model.specs.Contents.{entries_at}
use Rattle.bucket_model.specs.Rules.{range_count}
use Rattle.bucket_range.proofs.OnBytes.{endpoint_at}
use Rattle.bucket_range.proofs.range_count_at.Given as goal

abbrev pub invariant-loop-i : goal.invariant-loop-i
invariant-loop-i l = (l.i ≤ l.n) × (l.k ≤ l.i) × (range_count (endpoint_at l.bytes l.a) (entries_at l.bytes l.at l.n) ≡ l.k + range_count (endpoint_at l.bytes l.a) (entries_at l.bytes (l.at + l.i * 143) (l.n - l.i)))
