-- `packet_datagram::record_part` meets its contract. Assumes nothing.
use mathlib.Core.Path.{ap, ◌∙◌}
use Rattle.packet_span.specs.Parts.{bytes_of}
use Rattle.packet_datagram.specs.Datagram.{span_in}
use Rattle.packet_datagram.proofs.record_part.Goals as goal

pub returns : goal.returns
returns c = c.bytes_of.ensures ∙ ap (bytes_of c.args.datagram.now) (c.span_in.ensures ∙ ap span_in c.packet_in.ensures)
