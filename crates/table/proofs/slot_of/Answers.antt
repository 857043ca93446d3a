-- `table::slot_of` meets its contract. Assumes nothing.
use Prim.Native.Nat.{◌-◌}
use borrow.Author.Tests.{le-leb, lt-leb}
use Rattle.table.proofs.slot_of.Goals as goal

pub returns-then-bits-least : goal.returns-then-bits-least
returns-then-bits-least c = simp (lt-leb (257 - c.args.count) c.args.bits c.if-bits-least.true)

pub returns : goal.returns
returns c = simp (le-leb (257 - c.args.count) c.args.bits c.if-bits-least.false)
