-- `log_why::sent` meets its contract. Assumes nothing.
use mathlib.Core.Path.{sym, ◌∙◌}
use Rattle.log_line.proofs.Decoded.{decoded}
use Rattle.log_acts.proofs.Calls.{sent-own, sent-other}
use Rattle.log_acts.proofs.sent.Goals as goal

pub returns-then-same_bytes : goal.returns-then-same_bytes
returns-then-same_bytes c = let a = c.args in
    let whole = sent-own a.key.now a.table.now a.clock a.udp a.tcp (decoded (c.decode_field-k.ensures.count, (c.decode_field-k.ensures.bytes, c.decode_field-k.ensures.most))) (decoded (c.decode_field-a.ensures.count, (c.decode_field-a.ensures.bytes, c.decode_field-a.ensures.most)))
    (decoded (c.decode_field-n.ensures.count, (c.decode_field-n.ensures.bytes, c.decode_field-n.ensures.most))) (c.answer_number-number.ensures ∙ c.ping_sent_on_sound.ensures.value, c.ping_sent_on_sound.ensures.table_after) (sym c.same_bytes.ensures ∙ c.if-same_bytes.true) c.pinged.ensures in
    record { acted = whole.0; bytes = whole.1 }

pub returns : goal.returns
returns c = let a = c.args in
    let whole = sent-other a.key.now a.table.now a.clock a.udp a.tcp (decoded (c.decode_field-k.ensures.count, (c.decode_field-k.ensures.bytes, c.decode_field-k.ensures.most))) (decoded (c.decode_field-a.ensures.count, (c.decode_field-a.ensures.bytes, c.decode_field-a.ensures.most)))
    (decoded (c.decode_field-n.ensures.count, (c.decode_field-n.ensures.bytes, c.decode_field-n.ensures.most))) (c.answer_number-number.ensures ∙ c.ping_sent_on_sound.ensures.value, c.ping_sent_on_sound.ensures.table_after) (sym c.same_bytes.ensures ∙ c.if-same_bytes.false) c.idle.ensures in
    record { acted = whole.0; bytes = whole.1 }
