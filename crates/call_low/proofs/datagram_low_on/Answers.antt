-- `call_low::datagram_low_on` meets its contract. Assumes nothing.
use mathlib.Core.Path.{refl, sym, ap, ◌∙◌}
use Rattle.std.specs.Prelude.{Err}
use Rattle.call_history.specs.Model.{Call, datagram}
use Rattle.call_answer.specs.Answer.{refusal}
use Rattle.call_low.proofs.Front.{low-unsound, low-back, low-at, answer-unsound, answer_back, answer_at}
use Rattle.call_low.proofs.datagram_low_on.Goals as goal

pub returns-in-Err-Unsound : goal.returns-in-Err-Unsound
returns-in-Err-Unsound c =
    let a = c.args in
    let asked : Call = datagram a.reading.0 a.unix.0 a.address.now a.port a.signer.now a.datagram.now in
    let is = sym c.low_clock.ensures ∙ c.in-Err-Unsound.is ∙ ap Err c.in-Err-Unsound.field-0-is in
    record {
      value = answer-unsound a.table.now a.reading.0 a.unix.0 a.address.now a.port a.signer.now a.datagram.now is (c.plain.ensures ∙ ap refusal c.number.ensures);
      table_after = (low-unsound a.table.now asked refl is).1;
    }

pub returns-in-Err-Back : goal.returns-in-Err-Back
returns-in-Err-Back c =
    let a = c.args in
    let asked : Call = datagram a.reading.0 a.unix.0 a.address.now a.port a.signer.now a.datagram.now in
    let is = sym c.low_clock.ensures ∙ c.in-Err-Back.is ∙ ap Err c.in-Err-Back.field-0-is in
    record {
      value = answer_back a.table.now a.reading.0 a.unix.0 a.address.now a.port a.signer.now a.datagram.now is c.back_number-refusal.ensures (c.plain-in-Err-Back.ensures ∙ ap refusal c.number-in-Err-Back.ensures);
      table_after = (low-back a.table.now asked refl is refl).1;
    }

pub returns-in-Ok : goal.returns-in-Ok
returns-in-Ok c =
    let a = c.args in
    let asked : Call = datagram a.reading.0 a.unix.0 a.address.now a.port a.signer.now a.datagram.now in
    let is = sym c.low_clock.ensures ∙ c.in-Ok.is in
    let done = c.datagram_on in
    record {
      value = answer_at a.table.now a.reading.0 a.unix.0 a.address.now a.port a.signer.now a.datagram.now _ is done.ensures.value;
      table_after = (low-at a.table.now asked refl _ is refl done.ensures.table_after).1;
    }
