-- `packet_bodies::put_start` meets its contract. Assumes nothing.
use mathlib.Core.Path.{◌∙◌}
use native.Mathlib.Omega.{arith}
use lib.ListN.{length-set}
use Rattle.packet_bodies.proofs.put_start.Goals as goal

pub shape_of-buf : goal.shape_of-buf
shape_of-buf c = let a = c.args in
    c.write_header.auto.buf ∙ length-set a.buf.now 0 a.kind

pub returns : goal.returns
returns c = let w = c.write_header.ensures in record { next = omega (arith, w.next); bytes = w.bytes }
