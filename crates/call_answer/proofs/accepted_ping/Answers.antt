-- `call_answer::accepted_ping` meets its contract. Assumes nothing.
use mathlib.Core.Path.{ap, ◌∙◌}
use mathlib.Core.Bool.{Bool}
use Rattle.call_answer.specs.declared.Outcome.TheVariants as outcome
use Rattle.call_answer.specs.Answer.{plain}
use Rattle.call_answer.proofs.accepted_ping.Goals as goal

pub returns : goal.returns
returns c = λ key m h.
    c.plain.ensures ∙ ap (λ (due : Bool). plain (outcome.Ping c.args.p due)) (rw h.held at c.ping_due.ensures)
