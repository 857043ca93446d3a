-- `call_sweep::sweep_on_sound` meets its contract. Assumes nothing.
use Rattle.call_sweep.proofs.Model.{by_rules}
use Rattle.call_sweep.proofs.sweep_on_sound.Goals as goal

pub returns : goal.returns
returns c = let a = c.args in record { value = (by_rules a.table.now a.clock.0 (c.sweep_sound.ensures.value, c.sweep_sound.ensures.table_after)).0; table_after = (by_rules a.table.now a.clock.0 (c.sweep_sound.ensures.value, c.sweep_sound.ensures.table_after)).1 }
