use mathlib.Core.List.{[]}
use Prim.Native.Nat.{◌≤◌}
use Rattle.bucket.specs.Steps.{listed}
use Rattle.bucket_sweep.proofs.Laws.{Turned}
use Rattle.bucket_sweep.proofs.promote_all.Given as goal

abbrev pub invariant-loop-i : goal.invariant-loop-i
invariant-loop-i l = (l.i ≤ l.line.len) × Turned (record { entries = listed l.initial.entries; replacements = [] }) l.line.items l.i l.entries l.replacements
