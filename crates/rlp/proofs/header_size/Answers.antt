-- `rlp::header_size` meets its contract. Assumes nothing.
use mathlib.Core.Path.{ap}
use native.Mathlib.Omega.{arith}
use lib.ListN.{length}
use Rattle.rlp.proofs.Numbers.{uint_bound}
use Rattle.rlp.proofs.Writing.{header_short, header-long}
use Rattle.rlp.proofs.header_size.Goals as goal

pub overflow_add-result : goal.overflow_add-result
overflow_add-result c = omega (arith, c.uint_len.ensures, uint_bound c.args.n c.ranges.n.fits)

pub returns-then-n-lt56 : goal.returns-then-n-lt56
returns-then-n-lt56 c = omega (arith, ap length (header_short 192 c.args.n c.if-n-lt56.true))

pub returns-else-n-lt56 : goal.returns-else-n-lt56
returns-else-n-lt56 c = let n = c.args.n in
    omega (arith, ap length (header-long 192 n c.if-n-lt56.false), c.uint_len.ensures, uint_bound n c.ranges.n.fits)
