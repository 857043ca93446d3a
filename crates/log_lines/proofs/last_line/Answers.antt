-- `log_lines::last_line` meets its contract. Assumes nothing.
use borrow.Author.Tests.{eq-eqb, ne_eqb}
use Rattle.log_lines.specs.Steps.{last_of}
use native.Mathlib.Omega.{arith}
use Rattle.log_lines.proofs.last_line.Goals as goal

pub returns-then-begun : goal.returns-then-begun
unfolding last_of
returns-then-begun c = rw c.if-begun.true

pub returns-then-len-eq0 : goal.returns-then-len-eq0
unfolding last_of
returns-then-len-eq0 c = let b = c.args.begun in rw (c.if-begun.false, eq-eqb b.len 0 (omega arith))

pub returns : goal.returns
unfolding last_of
returns c = let b = c.args.begun in rw (c.if-begun.false, ne_eqb b.len 0 (λ e. omega arith))
