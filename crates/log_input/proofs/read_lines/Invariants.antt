use Rattle.std.proofs.Common.{◌≤◌}
use Rattle.log_input.proofs.read_lines.Given as goal

abbrev pub invariant-loop : goal.invariant-loop
invariant-loop g l = (l.begun.len ≤ 3000) × g.L.Lines.ready l.lines
