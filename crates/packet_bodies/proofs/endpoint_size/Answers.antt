-- `packet_bodies::endpoint_size` meets its contract. Assumes nothing.
use native.Mathlib.Omega.{arith}
use Rattle.packet_bodies.proofs.Sizes.{endpoint-size}
use borrow.Author.Rules.{rules}
use Rattle.packet_bodies.proofs.endpoint_size.Goals as goal

pub returns : goal.returns
returns c = let s = c in
    let a = s.args in
    let e = endpoint-size a.address.now a.udp a.tcp s.requires (search rules) (search rules) in
    (omega (arith, e, c.fields_size.ensures.0), omega (arith, c.fields_size.ensures.1))
