-- `log_why::act` meets its contract. Assumes nothing.
use mathlib.Core.Path.{refl, sym, ◌∙◌}
use Rattle.call_history.specs.Model.{datagram, ping_sent, sweep}
use Rattle.log_line.specs.Fields.{said}
use Rattle.log_replay.specs.Replay.{line_after}
use Rattle.log_replay.proofs.Fields.{read_short, read-spans}
use Rattle.log_replay.proofs.Kept.{lent_sound}
use Rattle.log_acts.specs.Acts.{acts_by, acts_of}
use Rattle.log_acts.proofs.Calls.{by_line, call-state, call-acted, own-acted}
use Rattle.log_acts.proofs.act.Goals as goal

pub take_own-made-requires : goal.take_own-made-requires
take_own-made-requires c = let p = c.requires in
    let line = c.args.line.now in
    let e = sym c.read_line-said.ensures ∙ c.in-Own.is in
    (p.0, (p.1.0, (read_short line _ e refl, (read-spans line _ e).0.within)))

pub returns-in-Own : goal.returns-in-Own
unfolding line_after acts_of
returns-in-Own c = let a = c.args in
    let t = c.take_own-made.ensures in
    by_line a.key.now a.replay a.place a.line.now a.memory.now _ (sym c.read_line-said.ensures ∙ c.in-Own.is)
    t.state (own-acted a.key.now a.replay a.place a.line.now a.memory.now _ t c.idle.ensures) t.count

pub rx-acted-requires : goal.rx-acted-requires
rx-acted-requires c = let a = c.args in
    let p = c.requires in
    let z = c.size-size in
    let line = a.line.now in
    let e = sym c.read_line-said.ensures ∙ c.in-Rx.is in
    let f = read-spans line _ e in record { line_len_bound = (read_short line _ e refl, (f.0.within, (f.1.0.within, f.1.1.0.within))); table_value = lent_sound a.replay a.memory.now z.result z.ensures.size p.1.1 }

pub sent-acted-requires : goal.sent-acted-requires
sent-acted-requires c = let a = c.args in
    let p = c.requires in
    let z = c.size-size in
    let line = a.line.now in
    let e = sym c.read_line-said.ensures ∙ c.in-Sent.is in
    let f = read-spans line _ e in record { line_len_bound = (read_short line _ e refl, (f.0.within, (f.1.0.within, f.1.1.0.within))); table_value = lent_sound a.replay a.memory.now z.result z.ensures.size p.1.1 }

pub sweep-acted-requires : goal.sweep-acted-requires
sweep-acted-requires c = let a = c.args in
    let p = c.requires in
    let z = c.size-size in
    lent_sound a.replay a.memory.now z.result z.ensures.size p.1.1

pub returns-in-Rx : goal.returns-in-Rx
unfolding line_after
returns-in-Rx c = let a = c.args in
    let p = c.requires in
    let r = c.rx-acted in
    let z = c.size-size in
    let call = datagram c.in-Rx.now c.in-Rx.unix (said a.line.now c.in-Rx.address) c.in-Rx.port (said a.line.now c.in-Rx.signer) (said a.line.now c.in-Rx.datagram) in
    by_line a.key.now a.replay a.place a.line.now a.memory.now _ (sym c.read_line-said.ensures ∙ c.in-Rx.is)
    (call-state a.key.now a.replay a.place a.line.now a.memory.now p.0 p.1.0 z.result z.ensures.size call r.ensures.acted r.ensures.bytes r.auto.table refl)
    (call-acted a.key.now a.replay a.place a.line.now a.memory.now p.0 p.1.0 z.result z.ensures.size call r.ensures.acted r.ensures.bytes r.auto.table refl)
    p.1.0

pub returns-in-Sent : goal.returns-in-Sent
unfolding line_after
returns-in-Sent c = let a = c.args in
    let p = c.requires in
    let r = c.sent-acted in
    let z = c.size-size in
    let call = ping_sent c.in-Sent.now (said a.line.now c.in-Sent.target) (said a.line.now c.in-Sent.address) c.in-Sent.udp c.in-Sent.tcp (said a.line.now c.in-Sent.hash) in
    by_line a.key.now a.replay a.place a.line.now a.memory.now _ (sym c.read_line-said.ensures ∙ c.in-Sent.is)
    (call-state a.key.now a.replay a.place a.line.now a.memory.now p.0 p.1.0 z.result z.ensures.size call (r.ensures.acted a.place) r.ensures.bytes r.auto.table refl)
    (call-acted a.key.now a.replay a.place a.line.now a.memory.now p.0 p.1.0 z.result z.ensures.size call (r.ensures.acted a.place) r.ensures.bytes r.auto.table refl)
    p.1.0

pub returns-in-Sweep : goal.returns-in-Sweep
unfolding line_after acts_by
returns-in-Sweep c = let a = c.args in
    let p = c.requires in
    let r = c.sweep-acted in
    let z = c.size-size in
    by_line a.key.now a.replay a.place a.line.now a.memory.now _ (sym c.read_line-said.ensures ∙ c.in-Sweep.is)
    (call-state a.key.now a.replay a.place a.line.now a.memory.now p.0 p.1.0 z.result z.ensures.size (sweep c.in-Sweep.now) r.ensures.acted r.ensures.bytes r.auto.table refl)
    (call-acted a.key.now a.replay a.place a.line.now a.memory.now p.0 p.1.0 z.result z.ensures.size (sweep c.in-Sweep.now) r.ensures.acted r.ensures.bytes r.auto.table refl)
    p.1.0

pub returns-in-Unreadable : goal.returns-in-Unreadable
unfolding line_after acts_of
returns-in-Unreadable c = let a = c.args in
    let p = c.requires in
    by_line a.key.now a.replay a.place a.line.now a.memory.now _ (sym c.read_line-said.ensures ∙ c.in-Unreadable.is)
    refl c.idle-acted.ensures p.1.0
