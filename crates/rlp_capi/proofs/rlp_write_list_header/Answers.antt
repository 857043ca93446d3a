-- `rlp_capi::rlp_write_list_header` meets its contract. Assumes nothing.
use native.Mathlib.Omega.{arith}
use Rattle.rlp.proofs.Writing.{header_bound}
use Rattle.rlp_capi.proofs.rlp_write_list_header.Goals as goal

pub write_header-requires : goal.write_header-requires
write_header-requires c = let room = header_bound 192 c.args.n (omega arith) in (omega arith, omega arith)
