-- `log_why::hear` meets its contract. Assumes nothing.
use mathlib.Core.Path.{sym, ap, ◌∙◌}
use Rattle.log_acts.specs.Acts.{idle, heard_acts}
use Rattle.log_acts.proofs.Calls.{heard-own, heard-other}
use Rattle.call_answer.specs.Answer.{number_of}
use Rattle.log_acts.proofs.hear.Goals as goal

pub returns-then-same_bytes : goal.returns-then-same_bytes
returns-then-same_bytes c = let a = c.args in
    let d = c.datagram_on_sound-received in record {
      acted = c.heard.ensures
          ∙ ap (λ r. heard_acts a.place r a.clock a.address.now a.port) d.ensures.value
          ∙ heard-own a.key.now a.place a.table.now a.clock (record { 0 = a.unix }) a.address.now a.port a.signer.now a.datagram.now
          (sym c.same_bytes.ensures ∙ c.if-same_bytes.true);
      bytes = d.ensures.table_after;
    }

pub returns : goal.returns
returns c = let a = c.args in
    let d = c.datagram_on_sound-received in record {
      acted = c.idle.ensures
          ∙ ap idle (c.number.ensures ∙ ap number_of d.ensures.value)
          ∙ heard-other a.key.now a.place a.table.now a.clock (record { 0 = a.unix }) a.address.now a.port a.signer.now a.datagram.now
          (sym c.same_bytes.ensures ∙ c.if-same_bytes.false);
      bytes = d.ensures.table_after;
    }
