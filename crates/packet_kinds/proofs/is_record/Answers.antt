-- `packet_kinds::is_record` meets its contract. Assumes nothing.
use mathlib.Core.Path.{ap}
use Prim.Native.Nat.{ℕ}
use lib.Dec.{leb}
use Rattle.packet_kinds.proofs.ItemTurns.{list_size}
use Rattle.packet_kinds.proofs.is_record.Goals as goal

pub returns-then-list : goal.returns-then-list
returns-then-list c = simp c.if-list.true (ap (λ (n : ℕ). leb n 300) (list_size c.args.p.now _ c.header_size.ensures.0))
