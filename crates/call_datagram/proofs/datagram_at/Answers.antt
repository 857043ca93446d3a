-- `call_datagram::datagram_at` meets its contract. Assumes nothing.
use mathlib.Core.Path.{◌≡◌, sym, ◌∙◌}
use Rattle.call_touched.proofs.Touch.{reached-header}
use Rattle.call_judge.specs.Steps.{judged}
use Rattle.call_judge.proofs.Judging.{judged-at}
use Rattle.call_datagram.proofs.Datagram.{refused-before, ready, done}
use Rattle.call_datagram.proofs.datagram_at.Goals as goal

pub judge-requires : goal.judge-requires
judge-requires c = let start = c in
    rw start.requires (reached-header start.args.table.now start.args.signer.now)

pub deliver-requires : goal.deliver-requires
deliver-requires c =
    let is_judged : let a = c.args in
    c.judge.result ≡ judged a.table.now a.clock.0 a.unix a.address.now a.signer.now a.datagram.now = let start = c in
    let a = start.args in
    judged-at a.table.now a.clock.0 a.unix a.address.now a.signer.now a.datagram.now start.requires c.judge.ensures in
    let at = c in
    let a = at.args in
    ready a.table.now a.clock.0 a.unix a.address.now a.signer.now a.datagram.now a.port (sym is_judged ∙ c.in-Passed.is)

pub returns-in-Refused : goal.returns-in-Refused
returns-in-Refused c =
    let is_judged : let a = c.args in
    c.judge.result ≡ judged a.table.now a.clock.0 a.unix a.address.now a.signer.now a.datagram.now = let start = c in
    let a = start.args in
    judged-at a.table.now a.clock.0 a.unix a.address.now a.signer.now a.datagram.now start.requires c.judge.ensures in
    let at = c in
    let a = at.args in record {
      value = (refused-before a.table.now a.clock.0 a.unix a.address.now a.signer.now a.datagram.now a.port
          (sym is_judged ∙ c.in-Refused.is) c.plain.ensures).0;
      table_after = (refused-before a.table.now a.clock.0 a.unix a.address.now a.signer.now a.datagram.now a.port
          (sym is_judged ∙ c.in-Refused.is) c.plain.ensures).1;
    }

pub returns-in-Passed : goal.returns-in-Passed
returns-in-Passed c =
    let is_judged : let a = c.args in
    c.judge.result ≡ judged a.table.now a.clock.0 a.unix a.address.now a.signer.now a.datagram.now = let start = c in
    let a = start.args in
    judged-at a.table.now a.clock.0 a.unix a.address.now a.signer.now a.datagram.now start.requires c.judge.ensures in
    let at = c in
    let a = at.args in record {
      value = (done a.table.now a.clock.0 a.unix a.address.now a.signer.now a.datagram.now a.port
          (sym is_judged ∙ c.in-Passed.is) c.deliver.ensures.value c.deliver.ensures.table_after).0;
      table_after = (done a.table.now a.clock.0 a.unix a.address.now a.signer.now a.datagram.now a.port
          (sym is_judged ∙ c.in-Passed.is) c.deliver.ensures.value c.deliver.ensures.table_after).1;
    }
