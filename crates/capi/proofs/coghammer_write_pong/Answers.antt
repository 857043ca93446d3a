-- `capi::coghammer_write_pong` meets its contract. Assumes nothing.
use native.Mathlib.Omega.{arith}
use Rattle.packet_bodies.specs.Writers.{can_pong, pong_body}
use Rattle.packet_laws.specs.Bodies.{pong}
use Rattle.capi_codes.proofs.Sizes.{body-fits, seq_fits, by_seq}
use Rattle.capi.proofs.coghammer_write_pong.Goals as goal

pub written_code-requires : goal.written_code-requires
written_code-requires c = let a = c.args in
    let seq = c.enr_seq_of-seq in
    body-fits (can_pong a.to.now a.ping_hash.now) (pong_body a.to.now a.to_udp a.ping_hash.now a.expiration seq.result) a.buf.now c.write_pong.ensures.answer
    (λ ok. pong a.to.now a.to_udp a.ping_hash.now a.expiration seq.result ok (omega arith) (omega arith)
    (seq_fits a.has_enr_seq a.enr_seq (omega arith) seq.ensures))

pub returns : goal.returns
returns c = let a = c.args in
    let sent = by_seq (can_pong a.to.now a.ping_hash.now) (λ s. pong_body a.to.now a.to_udp a.ping_hash.now a.expiration s) a.buf.now
    c.enr_seq_of-seq.ensures (c.write_pong.ensures.answer, c.write_pong.ensures.bytes) c.written_code.ensures in
    record { answer = sent.0; bytes = sent.1 }
