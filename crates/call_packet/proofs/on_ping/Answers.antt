-- `call_datagram::on_ping` meets its contract. Assumes nothing.
use mathlib.Core.Path.{◌≡◌, refl}
use lib.ListN.{length}
use borrow.Author.Rules.{rules}
use Rattle.bucket.specs.Steps.{contents}
use Rattle.bucket.proofs.Laws.{length_mapped}
use Rattle.bucket_rules.proofs.Laws.{unchanged}
use Rattle.call_packet.proofs.Packet.{not-heard, is-heard}
use Rattle.call_packet.proofs.Packet.{accepts}
use Rattle.call_packet.proofs.on_ping.Goals as goal

pub returns-then-not_verified : goal.returns-then-not_verified
returns-then-not_verified c =
    let entries_size : length c.args.b.entries.items ≡ 16 = search (rules, length_mapped) in
    let replacements_size : length c.args.b.replacements.items ≡ 16 = search (rules, length_mapped) in
    let start = c in
    let a = start.args in
    accepts a.b refl
    (not-heard a.clock.0 a.address.now a.port a.signer.now (contents a.b) (rw start.requires.1.held at c.not_verified.ensures) a.b c.if-not_verified.true
    (unchanged a.b entries_size replacements_size start.requires.0.bounded))
    (c.accepted_ping-answer.ensures a.signer.now (contents a.b) start.requires.1)

pub returns : goal.returns
returns c = let start = c in
    let a = start.args in
    accepts c.heard-after.result refl
    (is-heard a.clock.0 a.address.now a.port a.signer.now (contents a.b) (rw start.requires.1.held at c.not_verified.ensures) c.heard-after.result c.if-not_verified.false
    c.heard-after.ensures)
    (c.accepted_ping-answer.ensures a.signer.now (contents a.b) start.requires.1)
