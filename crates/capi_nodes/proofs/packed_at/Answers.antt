-- `capi_nodes::packed_at` meets its contract. Assumes nothing.
use Prim.Native.Nat.{◌+◌, ◌*◌}
use native.Mathlib.Omega.{arith}
use Rattle.octets.proofs.Laws.{number_less}
use Rattle.capi_nodes.proofs.Packed.{packed_is}
use Rattle.capi_nodes.proofs.packed_at.Goals as goal

pub overflow_cast-udp : goal.overflow_cast-udp
overflow_cast-udp c = let a = c.args in
    record { fits = rw c.number_at-udp.ensures (number_less a.nodes.now (a.i * 85 + 17) 2 (omega arith) (λ i. (c.shared_slice_known-1.given i).fits)) }

pub overflow_cast-tcp : goal.overflow_cast-tcp
overflow_cast-tcp c = let a = c.args in
    record { fits = rw c.number_at-tcp.ensures (number_less a.nodes.now (a.i * 85 + 19) 2 (omega arith) (λ i. (c.shared_slice_known-1.given i).fits)) }

pub returns : goal.returns
returns c = let a = c.args in
    packed_is a.nodes.now a.i c.get_bytes.ensures c.number_at-udp.ensures c.number_at-tcp.ensures c.get_bytes-2.ensures
