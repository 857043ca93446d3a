-- `log_lines::add_piece` meets its contract. Assumes nothing.
use Prim.Native.Nat.{◌-◌}
use mathlib.Core.Path.{refl}
use borrow.Author.Tests.{le-leb, lt-leb}
use lib.ListN.{length}
use Rattle.log_lines.specs.Lines.{limit}
use Rattle.log_lines.specs.Steps.{grown, added}
use native.Mathlib.Omega.{arith}
use Rattle.log_lines.proofs.add_piece.Goals as goal

pub returns-then-begun : goal.returns-then-begun
unfolding grown added
returns-then-begun c = record { begun = rw c.if-begun.true (refl); bytes = rw c.if-begun.true (refl) }

pub returns-then-len-piece : goal.returns-then-len-piece
unfolding grown added
returns-then-len-piece c = let a = c.args in record { begun = rw (c.if-begun.false, lt-leb (length a.piece.now) (limit - a.begun.len) (omega arith)) (refl); bytes = rw (c.if-begun.false, lt-leb (length a.piece.now) (limit - a.begun.len) (omega arith)) (refl) }

pub returns : goal.returns
unfolding grown added
returns c = let a = c.args in record { begun = rw (c.if-begun.false, le-leb (length a.piece.now) (limit - a.begun.len) (omega arith)) (refl); bytes = rw (c.if-begun.false, le-leb (length a.piece.now) (limit - a.begun.len) (omega arith)) (c.put_bytes.ensures) }
