use Rattle.std.proofs.Common.{◌≤◌, ◌-◌, length}
use Rattle.log_lines.specs.declared.Begun.{Begun}
use Rattle.log_input.specs.Ends.{Ends}
use Rattle.log_input.proofs.hand_over.Given as goal

abbrev pub invariant-loop-len : goal.invariant-loop-len
invariant-loop-len g l =
    (l.begun.len ≤ 3000) × (l.at ≤ length l.chunk) × g.L.Lines.ready l.lines × ((e : Begun) → Ends l.chunk l.begun l.at e → Ends l.chunk l.initial.begun 0 e)

abbrev pub decreases-loop-len : goal.decreases-loop-len
decreases-loop-len g l = length l.chunk - l.at
