use mathlib.Core.Path.{◌≡◌}
use Prim.Native.Nat.{◌≤◌}
use Rattle.lists.specs.Lists.{all}
use Rattle.table_model.proofs.Entries.{behind}
use Rattle.bucket_sweep.specs.Steps.{stays}
use Rattle.call_sweep.proofs.all_stay.Given as goal

abbrev pub invariant-loop-i : goal.invariant-loop-i
invariant-loop-i l = (l.i ≤ l.n) × (l.stay ≡ all (stays l.waiting l.time.0) (behind l.bytes l.at l.n l.i))
