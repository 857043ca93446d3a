-- `log_replay::step` meets its contract. Assumes nothing.
use mathlib.Core.Path.{refl, sym, ◌∙◌}
use Rattle.call_history.specs.Model.{datagram, ping_sent, sweep}
use Rattle.call_model.specs.Calls.{answer_on, bytes_after}
use Rattle.call_model.specs.Reading.{reading}
use Rattle.call_datagram.specs.Received.{received}
use Rattle.log_line.specs.Fields.{said}
use Rattle.log_answer.specs.AnswerRows.{number_row}
use Rattle.log_received.specs.AnswerLine.{received_row}
use Rattle.log_replay.specs.Replay.{line_after, line_answer}
use Rattle.log_replay.proofs.Fields.{read_short, read-spans}
use Rattle.log_replay.proofs.Answered.{unchanged, called, by_line}
use Rattle.log_replay.proofs.Kept.{lent_sound}
use Rattle.log_replay.proofs.step.Goals as goal

pub own-requires : goal.own-requires
own-requires c = let p = c.requires in
    let line = c.args.line.now in
    let e = sym c.read_line-said.ensures ∙ c.in-Own.is in
    let f = read-spans line _ e in
    (p.0, (p.1.0, (p.1.1.0, (read_short line _ e refl, f.0.within))))

pub returns-in-Own : goal.returns-in-Own
unfolding line_after line_answer
returns-in-Own c = let a = c.args in
    by_line a.replay a.line.now a.memory.now a.out.now _ (sym c.read_line-said.ensures ∙ c.in-Own.is) c.own.ensures

pub rx-len-requires : goal.rx-len-requires
rx-len-requires c = let a = c.args in
    let p = c.requires in
    let z = c.size-size in
    let line = a.line.now in
    let e = sym c.read_line-said.ensures ∙ c.in-Rx.is in
    let f = read-spans line _ e in record { answer_room_in_bounds = (p.1.0, (read_short line _ e refl, (f.0.within, (f.1.0.within, f.1.1.0.within)))); table_value = lent_sound a.replay a.memory.now z.result z.ensures.size p.1.1.1 }

pub sent-len-requires : goal.sent-len-requires
sent-len-requires c = let a = c.args in
    let p = c.requires in
    let z = c.size-size in
    let line = a.line.now in
    let e = sym c.read_line-said.ensures ∙ c.in-Sent.is in
    let f = read-spans line _ e in record { answer_room_in_bounds = (p.1.0, (read_short line _ e refl, (f.0.within, (f.1.0.within, f.1.1.0.within)))); table_value = lent_sound a.replay a.memory.now z.result z.ensures.size p.1.1.1 }

pub sweep-len-requires : goal.sweep-len-requires
sweep-len-requires c = let a = c.args in
    let p = c.requires in
    let z = c.size-size in record { answer_room_in_bounds = p.1.0; table_value = lent_sound a.replay a.memory.now z.result z.ensures.size p.1.1.1 }

pub returns-in-Rx : goal.returns-in-Rx
unfolding line_after line_answer
returns-in-Rx c = let a = c.args in
    let p = c.requires in
    let r = c.rx-len in
    by_line a.replay a.line.now a.memory.now a.out.now _ (sym c.read_line-said.ensures ∙ c.in-Rx.is)
    (called a.replay a.memory.now a.out.now p.0 p.1.1.0 (λ s. received_row (received s c.in-Rx.now c.in-Rx.unix (said a.line.now c.in-Rx.address) c.in-Rx.port (said a.line.now c.in-Rx.signer) (said a.line.now c.in-Rx.datagram))) (λ s. bytes_after reading s (datagram c.in-Rx.now c.in-Rx.unix (said a.line.now c.in-Rx.address) c.in-Rx.port (said a.line.now c.in-Rx.signer) (said a.line.now c.in-Rx.datagram))) c.size-size.result c.size-size.ensures.size
    r.ensures.len r.ensures.written r.ensures.bytes r.ensures.room r.auto.table refl)

pub returns-in-Sent : goal.returns-in-Sent
unfolding line_after line_answer
returns-in-Sent c = let a = c.args in
    let p = c.requires in
    let r = c.sent-len in
    by_line a.replay a.line.now a.memory.now a.out.now _ (sym c.read_line-said.ensures ∙ c.in-Sent.is)
    (called a.replay a.memory.now a.out.now p.0 p.1.1.0 (λ s. number_row (answer_on reading s (ping_sent c.in-Sent.now (said a.line.now c.in-Sent.key) (said a.line.now c.in-Sent.address) c.in-Sent.udp c.in-Sent.tcp (said a.line.now c.in-Sent.hash)))) (λ s. bytes_after reading s (ping_sent c.in-Sent.now (said a.line.now c.in-Sent.key) (said a.line.now c.in-Sent.address) c.in-Sent.udp c.in-Sent.tcp (said a.line.now c.in-Sent.hash))) c.size-size.result c.size-size.ensures.size
    r.ensures.len r.ensures.written r.ensures.bytes r.ensures.room r.auto.table refl)

pub returns-in-Sweep : goal.returns-in-Sweep
unfolding line_after line_answer
returns-in-Sweep c = let a = c.args in
    let p = c.requires in
    let r = c.sweep-len in
    by_line a.replay a.line.now a.memory.now a.out.now _ (sym c.read_line-said.ensures ∙ c.in-Sweep.is)
    (called a.replay a.memory.now a.out.now p.0 p.1.1.0 (λ s. number_row (answer_on reading s (sweep c.in-Sweep.now))) (λ s. bytes_after reading s (sweep c.in-Sweep.now)) c.size-size.result c.size-size.ensures.size
    r.ensures.len r.ensures.written r.ensures.bytes r.ensures.room r.auto.table refl)

pub returns-in-Unreadable : goal.returns-in-Unreadable
unfolding line_after line_answer
returns-in-Unreadable c = let a = c.args in
    let p = c.requires in
    let w = c.put_number-len.ensures in
    by_line a.replay a.line.now a.memory.now a.out.now _ (sym c.read_line-said.ensures ∙ c.in-Unreadable.is)
    (unchanged a.replay a.memory.now a.out.now p.0 p.1.1.0 (number_row 21) w.len w.bytes w.size)
