-- `packet_fields::node_at` meets its contract. Assumes nothing.
use mathlib.Core.Path.{ap, ◌∙◌}
use Rattle.packet_fields.specs.Spans.{node_at}
use Rattle.packet_fields.proofs.Spans.{node_read}
use Rattle.packet_fields.proofs.node_at.Goals as goal

pub returns : goal.returns
returns c = c.node_of.ensures ∙ node_read c.args.n _ _ _ c.item_payload.ensures c.bytes_of.ensures ∙ ap (node_at c.args.n) c.bytes_of-s.ensures
