-- `packet_bodies::node_size` meets its contract. Assumes nothing.
use mathlib.Core.Path.{◌≡◌}
use native.Mathlib.Omega.{arith}
use lib.ListN.{length, take}
use Rattle.packet_model.proofs.From.{address_sender}
use Rattle.packet_bodies.proofs.Nodes.{address_is}
use Rattle.packet_bodies.proofs.Sizes as sizes
use borrow.Author.Rules.{rules}
use Rattle.packet_bodies.proofs.node_size.Goals as goal

pub fields_size-requires : goal.fields_size-requires
fields_size-requires c =
    let e = c.args.node.endpoint in
    address_sender (take e.len e.address) (address_is e.len e.address c.requires (search rules))

pub returns : goal.returns
returns c =
    let n = c.args.node in
    let e = n.endpoint in
    let size : length e.address ≡ 16 = search rules in
    let z = sizes.node-size (take e.len e.address) e.udp e.tcp n.key (address_is e.len e.address c.requires size) (search rules) (search rules) (search rules) in
    (omega (arith, z, c.fields_size.ensures.0), omega (arith, c.fields_size.ensures.1))
