-- `table::init` meets its contract. Assumes nothing.
use mathlib.Core.Path.{◌∙◌}
use mathlib.Core.Bool.{true, false}
use borrow.Author.Tests.{le-leb, lt-leb, eq-eqb, ne_eqb}
use Rattle.table.proofs.Fresh.{room, wrong-room, wrong-key, made}
use Rattle.table.proofs.init.Goals as goal

pub returns-then-count-lt1 : goal.returns-then-count-lt1
returns-then-count-lt1 c = let args = c.args in record { value = (wrong-room args.table.now args.key.now args.count (simp (lt-leb 1 args.count c.if-count-lt1.true))).0; table_after = (wrong-room args.table.now args.key.now args.count (simp (lt-leb 1 args.count c.if-count-lt1.true))).1 }

pub returns-then-count-gt256 : goal.returns-then-count-gt256
returns-then-count-gt256 c = let args = c.args in record {
  value = (wrong-room args.table.now args.key.now args.count
      (simp (le-leb 1 args.count c.if-count-lt1.false, lt-leb args.count 256 c.if-count-gt256.true))).0;
  table_after = (wrong-room args.table.now args.key.now args.count
      (simp (le-leb 1 args.count c.if-count-lt1.false, lt-leb args.count 256 c.if-count-gt256.true))).1;
}

pub returns-then-table-count : goal.returns-then-table-count
returns-then-table-count c = let args = c.args in record {
  value = (wrong-room args.table.now args.key.now args.count
      (simp (le-leb 1 args.count c.if-count-lt1.false, le-leb args.count 256 c.if-count-gt256.false, ne_eqb _ _ c.if-table-count.true))).0;
  table_after = (wrong-room args.table.now args.key.now args.count
      (simp (le-leb 1 args.count c.if-count-lt1.false, le-leb args.count 256 c.if-count-gt256.false, ne_eqb _ _ c.if-table-count.true))).1;
}

pub returns-then-key-ne64 : goal.returns-then-key-ne64
returns-then-key-ne64 c = let args = c.args in record {
  value = (wrong-key args.table.now args.key.now args.count
      (room args.count args.table.now c.if-count-lt1.false c.if-count-gt256.false c.if-table-count.false)
      (ne_eqb _ _ c.if-key-ne64.true)).0;
  table_after = (wrong-key args.table.now args.key.now args.count
      (room args.count args.table.now c.if-count-lt1.false c.if-count-gt256.false c.if-table-count.false)
      (ne_eqb _ _ c.if-key-ne64.true)).1;
}

pub returns : goal.returns
returns c = let at_if4 = c in
    let args = at_if4.args in
    let done = made args.table.now args.key.now args.count
    (room args.count args.table.now at_if4.if-count-lt1.false at_if4.if-count-gt256.false at_if4.if-table-count.false)
    (eq-eqb _ _ at_if4.if-key-ne64.false) in record { value = done.0; table_after = c.write_fresh.ensures ∙ done.1 }
