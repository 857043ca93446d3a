-- `packet_bodies::fields_size` meets its contract. Assumes nothing.
use native.Mathlib.Omega.{arith}
use lib.ListN.{length}
use Rattle.packet_model.proofs.From.{sender_range}
use Rattle.packet_bodies.proofs.Sizes.{uint-width, fields-size, fields-bound}
use borrow.Author.Rules.{rules}
use Rattle.packet_bodies.proofs.fields_size.Goals as goal

pub overflow_add-result-2 : goal.overflow_add-result-2
overflow_add-result-2 c = let s = c in
    omega (arith, (sender_range (length s.args.address.now) s.requires).1, c.uint_size.ensures, uint-width 2 s.args.udp (omega arith) (search rules))

pub overflow_add-result-3 : goal.overflow_add-result-3
overflow_add-result-3 c = let s = c in
    omega (arith, c.uint_size.ensures, c.uint_size-2.ensures, (sender_range (length s.args.address.now) s.requires).1, uint-width 2 s.args.udp (omega arith) (search rules), uint-width 2 s.args.tcp (omega arith) (search rules))

pub returns : goal.returns
returns c = let s = c in
    let a = s.args in
    let e = fields-size a.address.now a.udp a.tcp s.requires in
    let b = fields-bound a.address.now a.udp a.tcp s.requires (search rules) (search rules) in
    (omega (arith, e, c.uint_size.ensures, c.uint_size-2.ensures), omega (arith, e, b, c.uint_size.ensures, c.uint_size-2.ensures))
