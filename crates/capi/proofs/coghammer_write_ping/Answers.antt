-- `capi::coghammer_write_ping` meets its contract. Assumes nothing.
use native.Mathlib.Omega.{arith}
use Rattle.packet_bodies.specs.Writers.{can_ping, ping_body}
use Rattle.packet_laws.specs.Bodies.{ping}
use Rattle.capi_codes.proofs.Sizes.{body-fits, seq_fits, by_seq}
use Rattle.capi.proofs.coghammer_write_ping.Goals as goal

pub written_code-requires : goal.written_code-requires
written_code-requires c = let a = c.args in
    let seq = c.enr_seq_of-seq in
    body-fits (can_ping a.from.now a.to.now) (ping_body a.from.now a.from_udp a.from_tcp a.to.now a.to_udp a.expiration seq.result) a.buf.now c.write_ping.ensures.answer
    (λ ok. ping a.from.now a.from_udp a.from_tcp a.to.now a.to_udp a.expiration seq.result ok (omega arith) (omega arith) (omega arith) (omega arith)
    (seq_fits a.has_enr_seq a.enr_seq (omega arith) seq.ensures))

pub returns : goal.returns
returns c = let a = c.args in
    let sent = by_seq (can_ping a.from.now a.to.now) (λ s. ping_body a.from.now a.from_udp a.from_tcp a.to.now a.to_udp a.expiration s) a.buf.now
    c.enr_seq_of-seq.ensures (c.write_ping.ensures.answer, c.write_ping.ensures.bytes) c.written_code.ensures in
    record { answer = sent.0; bytes = sent.1 }
