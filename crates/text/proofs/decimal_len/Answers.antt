-- `text::decimal_len` meets its contract. The invariant: k digits but one are counted, and those of the rest are to come. Assumes nothing.
use Rattle.text.proofs.Decimals.{length_one, length_more, length_bound, length_least}
use native.Mathlib.Omega.{arith}
use Rattle.text.proofs.decimal_len.Goals as goal

pub overflow_add-k : goal.overflow_add-k
overflow_add-k c = omega (arith, length_least c.loop-rest.rest, length_bound c.args.n c.ranges.n.fits)

pub loop-rest-preserved : goal.loop-rest-preserved
loop-rest-preserved c = omega (arith, length_more c.loop-rest.rest c.loop-rest-test.true)

pub returns : goal.returns
returns c = omega (arith, length_one c.loop-rest.rest c.loop-rest-test.false)
