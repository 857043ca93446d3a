-- `packet_datagram::packet_in` meets its contract. Assumes nothing.
use mathlib.Core.Path.{ap, ◌∙◌}
use lib.ListN.{get_or}
use Rattle.octets.specs.Octets.{part}
use Rattle.octets.proofs.Laws.{part_rest}
use Rattle.packet.specs.Packets.{read_data}
use Rattle.packet_datagram.specs.Datagram.{packet_in}
use Rattle.packet_datagram.proofs.Short.{short_packet}
use Rattle.packet_datagram.proofs.packet_in.Goals as goal

pub returns-then-datagram-lt98 : goal.returns-then-datagram-lt98
returns-then-datagram-lt98 c = short_packet c.args.datagram.now c.if-datagram-lt98.true

pub returns : goal.returns
unfolding packet_in part
returns c = c.read_data.ensures ∙ ap (read_data (get_or c.args.datagram.now 97 0) 98) (part_rest c.args.datagram.now 98)
