-- `packet::endpoint_at` meets its contract. Assumes nothing.
use native.Mathlib.Omega.{arith}
use Rattle.packet_fields.proofs.Spans.{span_fits, inner_fits}
use Rattle.packet.proofs.Made.{endpoint-is}
use Rattle.packet.proofs.endpoint_at.Goals as goal

pub overflow_add-first : goal.overflow_add-first
overflow_add-first c = omega (arith, span_fits c.args.n c.args.s.now _ c.item_payload-span.ensures)

pub moved-address-requires : goal.moved-address-requires
moved-address-requires c = omega (arith, inner_fits c.args.n 0 c.args.s.now _ _ _ c.item_payload-span.ensures c.bytes_of-e.ensures c.item_payload.ensures)

pub returns : goal.returns
returns c = endpoint-is c.args.base c.args.n c.args.s.now _ _ c.item_payload-span.ensures c.bytes_of-e.ensures _ _ _ _ c.item_payload.ensures c.moved-address.ensures c.port_item.ensures c.port_item-2.ensures
