use Prim.Native.Nat.{◌-◌, ◌≤◌}
use mathlib.Core.Path.{◌≡◌}
use lib.ListN.{drop}
use Rattle.log_line.specs.Fields.{fields_from, fields, counted}
use Rattle.log_line.proofs.Spans.{collect}
use Rattle.log_line.proofs.split.Given as goal

abbrev pub invariant-loop-i : goal.invariant-loop-i
invariant-loop-i l = (l.start ≤ l.i) × ((l.found.count ≤ l.start) × (collect l.found (fields_from l.start (l.i - l.start) (drop l.i l.line)) ≡ counted (fields l.line)))
