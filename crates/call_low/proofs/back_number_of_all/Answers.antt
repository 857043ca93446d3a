-- `call_low::back_number_of_all` meets its contract. Assumes nothing.
use mathlib.Core.Path.{sym, ap, ◌∙◌}
use mathlib.Core.Bool.{not}
use Rattle.call_low.specs.Steps.{back_number}
use Rattle.call_low.proofs.back_number_of_all.Goals as goal

pub returns-then-sound : goal.returns-then-sound
returns-then-sound c = sym (ap (λ b. back_number (not b)) (sym c.sound.ensures ∙ c.if-sound.true))

pub returns-else-sound : goal.returns-else-sound
returns-else-sound c = sym (ap (λ b. back_number (not b)) (sym c.sound.ensures ∙ c.if-sound.false))
