-- `packet_fields::enr_seq_item` meets its contract. Assumes nothing.
use mathlib.Core.Path.{ap}
use borrow.Author.Tests.{lt-ltb, le-ltb}
use Rattle.std.specs.Prelude.{Some}
use Rattle.packet_fields.specs.Spans.{enr_seq_item}
use Rattle.packet_fields.proofs.enr_seq_item.Goals as goal

pub returns-then-n-item_count : goal.returns-then-n-item_count
unfolding enr_seq_item
returns-then-n-item_count c = rw (← c.item_count.ensures, lt-ltb _ _ c.if-n-item_count.true) (ap Some c.uint_item.ensures)

pub returns-else-n-item_count : goal.returns-else-n-item_count
unfolding enr_seq_item
returns-else-n-item_count c = rw (← c.item_count.ensures, le-ltb _ _ c.if-n-item_count.false)
