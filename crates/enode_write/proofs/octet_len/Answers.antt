-- `enode_write::octet_len` meets its contract. Assumes nothing.
use native.Mathlib.Omega.{arith}
use Rattle.text.proofs.Decimals.{length_below}
use Rattle.enode_write.proofs.octet_len.Goals as goal

pub returns : goal.returns
returns c = let d = c.decimal_len in record { size = d.ensures; few = omega (arith, d.ensures, length_below 2 c.args.octet (omega arith)) }
