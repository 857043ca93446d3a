-- `rlp::uint_len` meets its contract. The invariant: k bytes are counted, and those of v are to come. Assumes nothing.
use native.Mathlib.Nat.{zero-add}
use native.Mathlib.Omega.{arith}
use Rattle.rlp.proofs.Numbers.{width-suc, width-zero, width_least, length-uint}
use Rattle.rlp.proofs.uint_len.Goals as goal

pub loop-v-init : goal.loop-v-init
loop-v-init c = zero-add _

pub overflow_add-k : goal.overflow_add-k
overflow_add-k c = omega (arith, width-suc c.loop-v.v c.loop-v-test.true, width_least 8 c.args.n c.ranges.n.fits)

pub loop-v-preserved : goal.loop-v-preserved
loop-v-preserved c = omega (arith, width-suc c.loop-v.v c.loop-v-test.true)

pub returns : goal.returns
returns c = omega (arith, width-zero c.loop-v.v c.loop-v-test.false, length-uint c.args.n)
