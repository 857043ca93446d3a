use mathlib.Core.Path.{◌≡◌}
use Prim.Native.Nat.{◌≤◌}
use Rattle.bucket_model.specs.Rules.{on_sweep}
use Rattle.table_model.specs.Layout.{encode_table, own_of, clock_of, buckets_of}
use Rattle.call_sweep.proofs.Swept.{changed}
use Rattle.call_sweep.proofs.sweep_buckets.Given as goal

abbrev pub invariant-loop-i : goal.invariant-loop-i
invariant-loop-i l = (l.i ≤ l.count) × (l.bytes ≡ encode_table (own_of l.initial.bytes) (clock_of l.initial.bytes) (changed (on_sweep l.time.0) l.i (buckets_of l.initial.bytes)))
