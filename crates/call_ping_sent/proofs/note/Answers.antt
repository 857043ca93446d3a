-- `call_ping_sent::note` meets its contract. Assumes nothing.
use borrow.Author.Rules.{rules}
use mathlib.Core.Path.{◌≡◌, refl, sym}
use Rattle.std.proofs.lemmas.Result.{err_from_is_err_and}
use Rattle.numbers.specs.Numbers.{number_of}
use Rattle.lists.specs.Lists.{first}
use Rattle.bucket_model.specs.Contents.{Contents}
use Rattle.bucket_model.specs.Rules.{on_ping_sent}
use Rattle.table_model.specs.Layout.{bucket_at}
use Rattle.bucket.specs.Steps.{Shows}
use Rattle.bucket.proofs.Laws.{of_shown}
use Rattle.call_touched.proofs.Refusals.{refused}
use Rattle.call_touched.proofs.Slots.{fits, held-sound, written}
use Rattle.call_history.specs.Model.{held_refusals}
use Rattle.call_ping_sent.proofs.Noting.{bounded_ping, not_noted, is-noted, room_left}
use Rattle.call_ping_sent.proofs.note.Goals as goal

pub returns-in_err-ping_sent_number-clause-value : goal.returns-in_err-ping_sent_number-clause-value
returns-in_err-ping_sent_number-clause-value c =
    let a = c.args in
    let m : Contents = bucket_at a.table.now a.slot in
    let b = c.bucket_in-b in
    let n = number_of c.in_err-ping_sent_number.field-0.0 in
    let is = of_shown (λ x. n ≡ first (held_refusals a.address.now a.udp a.key.now x)) b.result m b.ensures.0 (c.in_err-ping_sent_number.ensures a.key.now c.look_up-l.ensures) in
    let p = err_from_is_err_and c.from_residual.result c.from_residual.ensures.1 in
    rw (p.1, p.2) (not_noted a.table.now a.slot a.clock.0 a.key.now a.address.now a.udp a.tcp a.hash.now is (refused c.in_err-ping_sent_number.field-0.0)).0

pub returns-in_err-ping_sent_number-clause-table_after : goal.returns-in_err-ping_sent_number-clause-table_after
returns-in_err-ping_sent_number-clause-table_after c =
    let a = c.args in
    let m : Contents = bucket_at a.table.now a.slot in
    let b = c.bucket_in-b in
    let n = number_of c.in_err-ping_sent_number.field-0.0 in
    let is = of_shown (λ x. n ≡ first (held_refusals a.address.now a.udp a.key.now x)) b.result m b.ensures.0 (c.in_err-ping_sent_number.ensures a.key.now c.look_up-l.ensures) in
    (not_noted a.table.now a.slot a.clock.0 a.key.now a.address.now a.udp a.tcp a.hash.now is (refused c.in_err-ping_sent_number.field-0.0)).1

pub put-requires : goal.put-requires
put-requires c =
    let a = c.args in
    let s = a.table.now in
    let m : Contents = bucket_at s a.slot in
    let b = c.bucket_in-b in
    let after = c.ping_sent-pinged in
    let is = of_shown (λ x. 0 ≡ first (held_refusals a.address.now a.udp a.key.now x)) b.result m b.ensures.0 (c.in_ok-ping_sent_number.ensures a.key.now c.look_up-l.ensures) in
    let shows : Shows after.result (on_ping_sent a.clock.0 a.key.now a.address.now a.udp a.tcp a.hash.now m) =
    of_shown (λ x. Shows after.result (on_ping_sent a.clock.0 a.key.now a.address.now a.udp a.tcp a.hash.now x)) b.result m b.ensures.0 after.ensures in
    let was = held-sound s a.slot c.requires.0 (search rules) in (
      fits s a.slot c.requires.0,
      bounded_ping a.clock.0 a.key.now a.address.now a.udp a.tcp a.hash.now m was.entries_bound was.replacements_bound
          (room_left a.address.now a.udp a.key.now m (sym is)) after.result shows,
    )

pub returns : goal.returns
returns c =
    let a = c.args in
    let s = a.table.now in
    let m : Contents = bucket_at s a.slot in
    let b = c.bucket_in-b in
    let after = c.ping_sent-pinged in
    let is = of_shown (λ x. 0 ≡ first (held_refusals a.address.now a.udp a.key.now x)) b.result m b.ensures.0 (c.in_ok-ping_sent_number.ensures a.key.now c.look_up-l.ensures) in
    let shows : Shows after.result (on_ping_sent a.clock.0 a.key.now a.address.now a.udp a.tcp a.hash.now m) =
    of_shown (λ x. Shows after.result (on_ping_sent a.clock.0 a.key.now a.address.now a.udp a.tcp a.hash.now x)) b.result m b.ensures.0 after.ensures in
    let noted = is-noted s a.slot a.clock.0 a.key.now a.address.now a.udp a.tcp a.hash.now is refl (written s a.slot a.clock.0 after.result _ shows c.put.ensures) in
    record { value = noted.0; table_after = noted.1 }
