-- `text::put_decimal` meets its contract. Assumes nothing.
use Prim.Native.Nat.{◌-◌}
use mathlib.Core.Path.{◌∙◌}
use native.Mathlib.Omega.{arith}
use lib.ListN.{length-set}
use Rattle.text.proofs.Decimals.{written-more}
use Rattle.text.proofs.put_decimal.Goals as goal

pub loop-i-preserved : goal.loop-i-preserved
loop-i-preserved c = let l = c.loop-i in
    let a = c.args in
    record { size = length-set l.buf (l.i - 1) _ ∙ l.invariant.size; written = written-more a.buf.now l.buf a.at a.n l.rest l.i (omega arith) l.invariant.written }
