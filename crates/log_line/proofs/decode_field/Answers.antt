-- `log_line::decode_field` meets its contract. Assumes nothing.
use mathlib.Core.Path.{ap, ◌∙◌}
use lib.ListN.{length}
use Rattle.octets.specs.Octets.{store}
use Rattle.log_line.proofs.Decoded.{said_of, said_size}
use native.Mathlib.Omega.{arith}
use Rattle.log_line.proofs.decode_field.Goals as goal

pub put_unhex-requires : goal.put_unhex-requires
put_unhex-requires c = let s = c in
    let line = s.args.line.now in
    omega (arith, ap length (said_of line s.args.field c.text_of.ensures), said_size line s.args.field s.requires.0, s.requires.1.1)

pub returns : goal.returns
returns c = let s = c in
    let line = s.args.line.now in
    let e = said_of line s.args.field c.text_of.ensures in
    let w = c.put_unhex.ensures in record { count = omega (arith, w.next, ap length e); bytes = w.bytes ∙ ap (store s.args.buf.now 0) e; most = omega (arith, w.next, ap length e, said_size line s.args.field s.requires.0) }
