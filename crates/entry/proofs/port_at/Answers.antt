-- `entry::port_at` meets its contract: two bytes make a number below 2 ^ 16. Assumes nothing.
use native.Mathlib.Omega.{arith}
use Rattle.octets.proofs.Laws.{number_less}
use Rattle.entry.proofs.port_at.Goals as goal

pub overflow_cast-result : goal.overflow_cast-result
overflow_cast-result c = let args = c.args in
    record { fits = rw (← c.number_at.ensures) at (number_less args.bytes.now args.at 2 (omega arith) (λ k. (c.shared_slice_known-1.given k).fits)) }
