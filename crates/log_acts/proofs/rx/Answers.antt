-- `log_why::rx` meets its contract. Assumes nothing.
use Rattle.log_line.proofs.Decoded.{decoded}
use Rattle.log_acts.proofs.Calls.{said-datagram}
use Rattle.log_acts.proofs.rx.Goals as goal

pub returns : goal.returns
returns c = let a = c.args in
    let whole = said-datagram a.key.now a.place a.table.now a.clock a.unix a.port (decoded (c.decode_field-a.ensures.count, (c.decode_field-a.ensures.bytes, c.decode_field-a.ensures.most))) (decoded (c.decode_field-k.ensures.count, (c.decode_field-k.ensures.bytes, c.decode_field-k.ensures.most)))
    (decoded (c.decode_field-n.ensures.count, (c.decode_field-n.ensures.bytes, c.decode_field-n.ensures.most))) (c.hear.ensures.acted, c.hear.ensures.bytes) in
    record { acted = whole.0; bytes = whole.1 }
