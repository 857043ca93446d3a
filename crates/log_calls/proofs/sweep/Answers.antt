-- `log_replay::sweep` meets its contract. Assumes nothing.
use mathlib.Core.Path.{◌∙◌}
use Rattle.log_answer.specs.AnswerRows.{number_row}
use Rattle.log_calls.proofs.CallLines.{answered}
use Rattle.log_calls.proofs.sweep.Goals as goal

pub returns : goal.returns
returns c =
    let whole = answered number_row c.args.out.now
    (c.answer_number.ensures ∙ c.sweep_on_sound-answer.ensures.value, c.sweep_on_sound-answer.ensures.table_after) (c.put_number.ensures.len, (c.put_number.ensures.bytes, c.put_number.ensures.size)) in
    record { len = whole.0; written = whole.1.0; bytes = whole.1.1.0; room = whole.1.1.1 }
