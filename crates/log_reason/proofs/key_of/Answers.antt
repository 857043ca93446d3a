-- `log_why::key_of` meets its contract. Assumes nothing.
use native.Mathlib.Omega.{arith}
use Rattle.log_reason.proofs.Keys.{key_size, key_read}
use Rattle.log_reason.proofs.key_of.Goals as goal

pub put_unhex-requires : goal.put_unhex-requires
put_unhex-requires c = omega (arith, key_size c.args.digits.now c.requires)

pub returns : goal.returns
returns c = key_read c.args.digits.now c.requires c.put_unhex.ensures.bytes
