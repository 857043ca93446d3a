-- `packet_fields::uint_item` meets its contract. Assumes nothing.
use mathlib.Core.Path.{◌∙◌}
use Rattle.packet_fields.proofs.Spans.{uint_read}
use Rattle.packet_fields.proofs.uint_item.Goals as goal

pub returns : goal.returns
returns c = c.unwrap_or.ensures ∙ uint_read c.args.n c.args.s.now _ _ c.item_payload.ensures c.bytes_of.ensures c.read_uint.ensures
