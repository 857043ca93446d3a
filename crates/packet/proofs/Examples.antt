-- The worked examples hold.
use mathlib.Core.Path.{refl}
use Rattle.octets.specs.Octets.{part, number_from}
use Rattle.rlp.specs.Reading.{head, sized, long, strict, whole, count, uint_of}
use Rattle.packet_kinds.specs.Payload.{items_of}
use Rattle.packet_schema.specs.Schema.{field}
use Rattle.packet_fields.specs.Spans.{span_of, item_span, uint_item, port_item, enr_seq_item}
use Rattle.packet.specs.Packets.{type_of, endpoint_of, ping_of, enr_request_of, read_as}
use Rattle.packet.specs.Examples.{Examples}

pub examples : Examples
unfolding part number_from head sized long strict whole count uint_of items_of field span_of item_span uint_item port_item enr_seq_item type_of endpoint_of ping_of enr_request_of read_as
examples =
    record {
      unknown_type = refl;
      no_data = refl;
      a_string = refl;
      no_field = refl;
      expiration_9 = refl;
      ignored_inside = refl;
      ignored_torn = refl;
      plain_with_header = refl;
      lone_zero = refl;
      leading-zero = refl;
      a_list = refl;
      broken_first = refl;
      broken_later = refl;
      node_too_short = refl;
      unknown_from = refl;
      empty_to = refl;
    }
