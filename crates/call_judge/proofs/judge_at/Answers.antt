-- `call_judge::judge_at` meets its contract. Assumes nothing.
use mathlib.Core.Path.{refl, ap, ◌∙◌}
use Rattle.call_touched.proofs.Refusals.{refused}
use Rattle.lists.proofs.First.{not-passed, passed_on}
use Rattle.packet.specs.declared.Parsed.{Parsed}
use Rattle.call_judge.specs.declared.Judged.TheVariants.{Refused}
use Rattle.call_judge.specs.Steps.{after_reading}
use Rattle.call_judge.proofs.judge_at.Goals as goal

pub returns-in-Ok : goal.returns-in-Ok
returns-in-Ok c = passed_on Refused _ c.in-Ok.ensures refl (c.after_reading.ensures ∙ ap (λ (p : Parsed). after_reading c.args.touched p) c.read.ensures)

pub returns-in-Err : goal.returns-in-Err
returns-in-Err c = ap Refused c.number.ensures ∙ not-passed Refused _ c.in-Err.ensures (refused c.in-Err.refusal)
