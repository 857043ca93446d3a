-- `packet::read_as` meets its contract. Assumes nothing.
use native.Mathlib.Omega.{arith}
use lib.ListN.{length}
use mathlib.Core.Path.{ap}
use Rattle.packet.specs.Packets.{answered}
use Rattle.packet_fields.proofs.Spans.{span_fits, length_bytes}
use Rattle.packet.proofs.Made.{read-good, read-refused}
use Rattle.packet.proofs.read_as.Goals as goal

pub overflow_add-base : goal.overflow_add-base
overflow_add-base c = let a = c.args in
    omega (arith, span_fits 0 a.bytes.now _ c.item_payload-span.ensures)

pub packet_of-requires : goal.packet_of-requires
packet_of-requires c = let a = c.args in
    let payload = c.item_payload-span in
    omega (arith, span_fits 0 a.bytes.now _ payload.ensures, ap length c.bytes_of.ensures, length_bytes a.bytes.now payload.result)

pub returns-in-Good : goal.returns-in-Good
returns-in-Good c = let a = c.args in
    read-good a.t a.base a.bytes.now _ c.check.ensures
    c.in-Good.is _ _ _ c.item_payload-span.ensures c.bytes_of.ensures c.packet_of.ensures

pub returns-in-Broken : goal.returns-in-Broken
returns-in-Broken c = let a = c.args in
    read-refused a.t a.base a.bytes.now _ c.check.ensures
    (λ p. ap (λ v. answered v p) c.in-Broken.is)

pub returns-in-Wrong : goal.returns-in-Wrong
returns-in-Wrong c = let a = c.args in
    read-refused a.t a.base a.bytes.now _ c.check.ensures
    (λ p. ap (λ v. answered v p) c.in-Wrong.is)
