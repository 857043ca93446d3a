-- `call_ping_sent::ping_sent_at` meets its contract. Assumes nothing.
use mathlib.Core.Path.{sym}
use Rattle.std.proofs.lemmas.Result.{err_from_is_err_and}
use Rattle.call_touched.proofs.Touch.{reached-header}
use Rattle.call_ping_sent.proofs.PingSent.{placed-at, refused-before, ready, done}
use Rattle.call_ping_sent.proofs.ping_sent_at.Goals as goal

pub place-requires : goal.place-requires
place-requires c = rw c.requires (reached-header c.args.table.now c.args.key.now)

pub note-requires : goal.note-requires
note-requires c =
    let a = c.args in
    ready a.table.now a.clock.0 a.key.now a.address.now a.hash.now a.udp a.tcp
    (sym (placed-at a.table.now a.clock.0 a.key.now a.address.now a.hash.now c.requires c.in_ok-slot.ensures))

pub returns-in_err-slot : goal.returns-in_err-slot
returns-in_err-slot c =
    let a = c.args in
    let before = refused-before a.table.now a.clock.0 a.key.now a.address.now a.hash.now a.udp a.tcp
    (sym (placed-at a.table.now a.clock.0 a.key.now a.address.now a.hash.now c.requires c.in_err-slot.ensures)) in
    let p = err_from_is_err_and c.from_residual.result c.from_residual.ensures.1 in
    record { value = rw (p.1, p.2) before.0; table_after = before.1 }

pub returns : goal.returns
returns c =
    let a = c.args in
    let after = done a.table.now a.clock.0 a.key.now a.address.now a.hash.now a.udp a.tcp
    (sym (placed-at a.table.now a.clock.0 a.key.now a.address.now a.hash.now c.requires c.in_ok-slot.ensures)) c.note.ensures.value c.note.ensures.table_after in
    record { value = after.0; table_after = after.1 }
