-- `call_datagram::on_other` meets its contract. Assumes nothing.
use mathlib.Core.Path.{refl}
use native.Mathlib.Omega.{arith}
use Rattle.lists.proofs.First.{here, later}
use Rattle.bucket.specs.Steps.{contents}
use Rattle.call_packet.proofs.Packet.{is-heard}
use Rattle.call_packet.proofs.Packet.{refuses, accepts}
use Rattle.call_packet.proofs.on_other.Goals as goal

pub returns-then-not_verified : goal.returns-then-not_verified
returns-then-not_verified c = let start = c in
    rw c.refused.ensures
    (refuses start.args.b (here 13 (rw start.requires.1.held at c.not_verified.ensures) _ c.if-not_verified.true) (λ z. omega arith))

pub returns : goal.returns
returns c = let start = c in
    let a = start.args in
    let verified = rw start.requires.1.held at c.not_verified.ensures in
    accepts c.heard-after.result (later 13 verified c.if-not_verified.false refl)
    (is-heard a.clock.0 a.address.now a.port a.signer.now (contents a.b) verified c.heard-after.result c.if-not_verified.false c.heard-after.ensures)
    c.plain-answer.ensures
