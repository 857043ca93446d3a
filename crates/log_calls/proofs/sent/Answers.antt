-- `log_replay::sent` meets its contract. Assumes nothing.
use mathlib.Core.Path.{◌∙◌}
use Rattle.call_history.specs.Model.{ping_sent}
use Rattle.call_model.specs.Calls.{answer_on, bytes_after}
use Rattle.call_model.specs.Reading.{reading}
use Rattle.log_answer.specs.AnswerRows.{number_row}
use Rattle.log_line.proofs.Decoded.{decoded}
use Rattle.log_calls.proofs.CallLines.{answered-three}
use Rattle.log_calls.proofs.sent.Goals as goal

pub put_number-requires : goal.put_number-requires
put_number-requires c = c.requires.answer_room_in_bounds.0

pub returns : goal.returns
returns c = let a = c.args in
    let whole = answered-three number_row a.out.now (λ x y z. answer_on reading a.table.now (ping_sent a.clock x y a.udp a.tcp z)) (λ x y z. bytes_after reading a.table.now (ping_sent a.clock x y a.udp a.tcp z))
    (decoded (c.decode_field-k.ensures.count, (c.decode_field-k.ensures.bytes, c.decode_field-k.ensures.most)))
    (decoded (c.decode_field-a.ensures.count, (c.decode_field-a.ensures.bytes, c.decode_field-a.ensures.most)))
    (decoded (c.decode_field-n.ensures.count, (c.decode_field-n.ensures.bytes, c.decode_field-n.ensures.most)))
    (c.answer_number.ensures ∙ c.ping_sent_on_sound-answer.ensures.value, c.ping_sent_on_sound-answer.ensures.table_after)
    (c.put_number.ensures.len, (c.put_number.ensures.bytes, c.put_number.ensures.size)) in
    record { len = whole.0; written = whole.1.0; bytes = whole.1.1.0; room = whole.1.1.1 }
