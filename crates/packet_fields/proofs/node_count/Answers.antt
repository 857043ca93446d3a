-- `packet_fields::node_count` meets its contract. Assumes nothing.
use mathlib.Core.Path.{ap, ◌∙◌}
use Rattle.rlp.specs.Reading.{count}
use Rattle.packet_fields.proofs.Spans.{nodes-count}
use Rattle.packet_fields.proofs.node_count.Goals as goal

pub returns : goal.returns
returns c = c.item_count.ensures ∙ ap count c.bytes_of.ensures ∙ nodes-count _
