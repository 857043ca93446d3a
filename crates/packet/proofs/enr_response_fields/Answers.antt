-- `packet::enr_response_fields` meets its contract. Assumes nothing.
use native.Mathlib.Omega.{arith}
use mathlib.Core.Path.{ap, ◌∙◌}
use Rattle.packet_span.specs.Parts.{moved}
use Rattle.packet.specs.Packets.{enr_response_of}
use Rattle.packet_fields.proofs.Spans.{item-span-fits}
use Rattle.packet.proofs.enr_response_fields.Goals as goal

pub moved-record-requires : goal.moved-record-requires
moved-record-requires c = omega (arith, item-span-fits 1 c.args.s.now _ c.item_span.ensures)

pub returns : goal.returns
unfolding enr_response_of
returns c = let p = c.moved-record.ensures ∙ ap (moved c.args.base) c.item_span.ensures in
    λ i. record { request_hash = c.payload_at-request_hash.ensures i; «record» = p i }
