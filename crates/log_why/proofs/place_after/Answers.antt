-- `log_why::place_after` meets its contract. Assumes nothing.
use mathlib.Core.Path.{refl, sym, ◌∙◌}
use Rattle.lists.proofs.Laws.{never}
use Rattle.log_why.proofs.place_after.Goals as goal

pub returns-then-looks : goal.returns-then-looks
returns-then-looks c = record { there = (λ _. c.look.ensures); same = λ no. never (sym c.if-looks.true ∙ no) }

pub returns-else-looks : goal.returns-else-looks
returns-else-looks c = record { there = (λ yes. never (sym yes ∙ c.if-looks.false)); same = λ _. refl }
