-- `call_key::first_in` meets its contract. Assumes nothing.
use native.Mathlib.Omega.{arith}
use Rattle.call_key.proofs.Heads.{room, none-there, one-there}
use Rattle.call_key.proofs.first_in.Goals as goal

pub overflow_mul-at : goal.overflow_mul-at
overflow_mul-at c = let a = c.args in omega (arith, room a.table.now a.slot c.requires)

pub overflow_add-at : goal.overflow_add-at
overflow_add-at c = let a = c.args in omega (arith, room a.table.now a.slot c.requires)

pub bounds-table-at : goal.bounds-table-at
bounds-table-at c = let a = c.args in omega (arith, room a.table.now a.slot c.requires)

pub returns-then-table-at-eq0 : goal.returns-then-table-at-eq0
returns-then-table-at-eq0 c = let a = c.args in none-there a.table.now a.slot c.requires c.if-table-at-eq0.true c.no_head.ensures

pub overflow_add-at-2 : goal.overflow_add-at-2
overflow_add-at-2 c = let a = c.args in omega (arith, room a.table.now a.slot c.requires)

pub load_entry-requires : goal.load_entry-requires
load_entry-requires c = let a = c.args in omega (arith, room a.table.now a.slot c.requires)

pub returns : goal.returns
returns c = let a = c.args in one-there a.table.now a.slot c.requires c.if-table-at-eq0.false c.load_entry.ensures c.head_entry.ensures
