-- `text::put_marked` meets its contract. Assumes nothing.
use mathlib.Core.Path.{refl, ◌∙◌}
use native.Mathlib.Omega.{arith}
use lib.ListN.{length-set}
use Rattle.text.specs.Decimals.{decimal}
use Rattle.octets.proofs.Writing.{wrote_cons}
use Rattle.text.proofs.put_marked.Goals as goal

pub put_decimal-requires : goal.put_decimal-requires
put_decimal-requires c = simp length-set (omega arith)

pub shape_of-buf : goal.shape_of-buf
shape_of-buf c = let a = c.args in c.put_decimal.auto.buf ∙ length-set a.buf.now a.at a.mark

pub returns : goal.returns
returns c = let a = c.args in record { next = (wrote_cons a.buf.now a.at a.mark (decimal a.n) _ _ _ refl (c.put_decimal.ensures.next, c.put_decimal.ensures.bytes)).0; bytes = (wrote_cons a.buf.now a.at a.mark (decimal a.n) _ _ _ refl (c.put_decimal.ensures.next, c.put_decimal.ensures.bytes)).1 }
