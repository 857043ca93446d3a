-- `packet_bodies::put_node` meets its contract. Assumes nothing.
use mathlib.Core.Path.{◌≡◌}
use lib.ListN.{length}
use Rattle.packet_bodies.proofs.Nodes.{address_is}
use borrow.Author.Rules.{rules}
use Rattle.packet_bodies.proofs.put_node.Goals as goal

pub put_keyed-requires : goal.put_keyed-requires
put_keyed-requires c =
    let address_array : length c.args.node.endpoint.address ≡ 16 = search rules in
    let key_array : length c.args.node.key ≡ 64 = search rules in
    let s = c in
    let e = s.args.node.endpoint in
    (address_is e.len e.address s.requires.0 address_array, key_array, s.requires.1)
