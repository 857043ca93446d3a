-- `rlp_capi::rlp_write_uint` meets its contract. Assumes nothing.
use native.Mathlib.Omega.{arith}
use Rattle.rlp.proofs.Writing.{uint_size_bound}
use Rattle.rlp_capi.proofs.rlp_write_uint.Goals as goal

pub write_uint-requires : goal.write_uint-requires
write_uint-requires c = omega (arith, uint_size_bound c.args.n (omega arith))
