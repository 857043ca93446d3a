-- `call_packet::on_pong` meets its contract. Assumes nothing.
use mathlib.Core.Path.{sym, ◌∙◌}
use Rattle.bucket.specs.Steps.{contents}
use Rattle.call_touched.proofs.Refusals.{refused}
use Rattle.call_packet.proofs.Packet.{refuses, accepts}
use Rattle.call_packet.proofs.on_pong.Goals as goal

pub returns-in-Ok : goal.returns-in-Ok
returns-in-Ok c = let a = c.args in
    let number = rw c.bytes_of-hash.ensures at (c.in-Ok.ensures a.signer.now (contents a.b) c.requires.1) in
    accepts c.pong-after.result number c.pong-after.ensures (c.accepted_pong-answer.ensures a.signer.now c.requires.1)

pub returns-in-Err : goal.returns-in-Err
returns-in-Err c = let a = c.args in
    let number = rw c.bytes_of-hash.ensures at (c.in-Err.ensures a.signer.now (contents a.b) c.requires.1) in
    rw c.refused.ensures (refuses a.b (c.number.ensures ∙ number) (λ z. refused c.in-Err.refusal (sym c.number.ensures ∙ z)))
