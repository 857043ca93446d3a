-- `packet_fields::node_of` meets its contract. Assumes nothing.
use Rattle.packet_fields.proofs.Nodes.{node_is}
use Rattle.packet_fields.proofs.node_of.Goals as goal

pub returns : goal.returns
returns c = node_is c.args.p.now _ _ _ _ _ _ _ _ _ c.item_payload.ensures c.bytes_of-address_bytes.ensures c.item_payload-2.ensures c.bytes_of.ensures c.pad-2.ensures c.pad.ensures c.address_len.ensures c.port_item.ensures c.port_item-2.ensures
