-- `call_sweep::sweep` meets its contract. Assumes nothing.
use mathlib.Core.Path.{sym, ◌∙◌}
use Rattle.call_model.proofs.IfAny.{sound-any}
use Rattle.call_sweep.proofs.Model.{sweep-unsound}
use Rattle.call_sweep.proofs.sweep.Goals as goal

pub returns-then-not-sound : goal.returns-then-not-sound
returns-then-not-sound c = let args = c.args in record { value = (sweep-unsound args.table.now args.time.0 (sym c.sound.ensures ∙ c.if-not-sound.true)).0; table_after = (sweep-unsound args.table.now args.time.0 (sym c.sound.ensures ∙ c.if-not-sound.true)).1 }

pub sweep_sound-requires : goal.sweep_sound-requires
sweep_sound-requires c = sound-any _ (sym c.sound.ensures ∙ c.if-not-sound.false)
