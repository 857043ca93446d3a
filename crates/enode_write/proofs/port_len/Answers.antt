-- `enode_write::port_len` meets its contract. Assumes nothing.
use native.Mathlib.Omega.{arith}
use Rattle.text.proofs.Decimals.{length_below}
use Rattle.enode_write.proofs.port_len.Goals as goal

pub returns : goal.returns
returns c = let d = c.decimal_len in record { size = d.ensures; few = omega (arith, d.ensures, length_below 4 c.args.port (omega arith)) }
