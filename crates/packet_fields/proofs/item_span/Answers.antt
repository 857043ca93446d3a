-- `packet_fields::item_span` meets its contract. Assumes nothing.
use native.Mathlib.Omega.{arith}
use Rattle.packet_fields.proofs.Spans.{span_fits, payload-after, item-span-is}
use Rattle.packet_fields.proofs.item_span.Goals as goal

pub overflow_add-result : goal.overflow_add-result
overflow_add-result c = omega (arith, span_fits c.args.n c.args.s.now _ c.item_payload-payload.ensures)

pub overflow_sub-result : goal.overflow_sub-result
overflow_sub-result c = omega (arith, c.item_offset-at.ensures, payload-after c.args.n c.args.s.now _ c.item_payload-payload.ensures)

pub returns : goal.returns
returns c = item-span-is c.args.n c.args.s.now c.item_offset-at.ensures c.item_payload-payload.ensures
