-- `call_sweep::sweep_on` meets its contract. Assumes nothing.
use Rattle.call_sweep.proofs.Model.{by_rules}
use Rattle.call_sweep.proofs.sweep_on.Goals as goal

pub returns : goal.returns
returns c = let a = c.args in record { value = (by_rules a.table.now a.clock.0 (c.sweep.ensures.value, c.sweep.ensures.table_after)).0; table_after = (by_rules a.table.now a.clock.0 (c.sweep.ensures.value, c.sweep.ensures.table_after)).1 }
