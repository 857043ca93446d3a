-- `rlp_write::uint_size` meets its contract. Assumes nothing.
use mathlib.Core.Path.{sym}
use native.Mathlib.Omega.{arith}
use Rattle.rlp.proofs.Numbers.{uint_bound}
use Rattle.rlp.proofs.Writing.{uint_size_small, uint_size_large}
use Rattle.rlp_write.proofs.uint_size.Goals as goal

pub overflow_add-result : goal.overflow_add-result
overflow_add-result c = omega (arith, c.uint_len.ensures, uint_bound c.args.n c.ranges.n.fits)

pub returns-then-n-lt128 : goal.returns-then-n-lt128
returns-then-n-lt128 c = sym (uint_size_small c.args.n c.if-n-lt128.true)

pub returns-else-n-lt128 : goal.returns-else-n-lt128
returns-else-n-lt128 c = omega (arith, uint_size_large c.args.n c.ranges.n.fits c.if-n-lt128.false, c.uint_len.ensures)
