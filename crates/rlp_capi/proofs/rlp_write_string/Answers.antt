-- `rlp_capi::rlp_write_string` meets its contract. Assumes nothing.
use native.Mathlib.Omega.{arith}
use Rattle.rlp.proofs.Writing.{encode_bound}
use Rattle.rlp_capi.proofs.rlp_write_string.Goals as goal

pub write_string-requires : goal.write_string-requires
write_string-requires c = omega (arith, encode_bound c.args.s.now (omega arith))
