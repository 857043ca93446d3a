-- `packet::payload_at` meets its contract. Assumes nothing.
use native.Mathlib.Omega.{arith}
use mathlib.Core.Path.{ap, ◌∙◌}
use Rattle.packet_span.specs.Parts.{moved}
use Rattle.packet_fields.proofs.Spans.{span_fits}
use Rattle.packet.proofs.payload_at.Goals as goal

pub moved-requires : goal.moved-requires
moved-requires c = omega (arith, span_fits c.args.n c.args.s.now _ c.item_payload.ensures)

pub returns : goal.returns
returns c = c.moved.ensures ∙ ap (moved c.args.base) c.item_payload.ensures
