-- `log_why::sweep` meets its contract. Assumes nothing.
use mathlib.Core.Path.{◌∙◌}
use Rattle.log_acts.proofs.Leaves.{swept-acts}
use Rattle.log_acts.proofs.sweep.Goals as goal

pub returns : goal.returns
returns c = let a = c.args in record { acted = swept-acts a.place a.clock (c.answer_number-number.ensures ∙ c.sweep_on_sound.ensures.value) c.is_late.ensures; bytes = c.sweep_on_sound.ensures.table_after }
