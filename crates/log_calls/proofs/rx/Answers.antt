-- `log_replay::rx` meets its contract. Assumes nothing.
use Rattle.call_history.specs.Model.{datagram}
use Rattle.call_model.specs.Calls.{bytes_after}
use Rattle.call_model.specs.Reading.{reading}
use Rattle.call_datagram.specs.Received.{received}
use Rattle.log_received.specs.AnswerLine.{received_row}
use Rattle.log_line.proofs.Decoded.{decoded}
use Rattle.log_calls.proofs.CallLines.{answered-three}
use Rattle.log_calls.proofs.rx.Goals as goal

pub put_received-requires : goal.put_received-requires
put_received-requires c = c.requires.answer_room_in_bounds.0

pub returns : goal.returns
returns c = let a = c.args in
    let whole = answered-three received_row a.out.now (λ x y z. received a.table.now a.clock a.unix x a.port y z) (λ x y z. bytes_after reading a.table.now (datagram a.clock a.unix x a.port y z))
    (decoded (c.decode_field-a.ensures.count, (c.decode_field-a.ensures.bytes, c.decode_field-a.ensures.most)))
    (decoded (c.decode_field-k.ensures.count, (c.decode_field-k.ensures.bytes, c.decode_field-k.ensures.most)))
    (decoded (c.decode_field-n.ensures.count, (c.decode_field-n.ensures.bytes, c.decode_field-n.ensures.most)))
    (c.datagram_on_sound-received.ensures.value, c.datagram_on_sound-received.ensures.table_after)
    (c.put_received.ensures.len, (c.put_received.ensures.bytes, c.put_received.ensures.size)) in
    record { len = whole.0; written = whole.1.0; bytes = whole.1.1.0; room = whole.1.1.1 }
