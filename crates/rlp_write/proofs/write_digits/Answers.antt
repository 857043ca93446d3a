-- `rlp_write::write_digits` meets its contract. Assumes nothing.
use Prim.Native.Nat.{ℕ}
use mathlib.Core.Path.{ap, ◌∙◌}
use native.Mathlib.Omega.{arith}
use Rattle.octets.specs.Octets.{store, big_endian}
use Rattle.rlp.proofs.Numbers.{length-uint}
use Rattle.rlp_write.proofs.write_digits.Goals as goal

pub returns : goal.returns
returns c = let a = c.args in
    let k = c.uint_len-k in record { next = omega arith; bytes = c.put_number.ensures ∙ ap (λ (w : ℕ). store a.buf.now a.at (big_endian w a.n)) (k.ensures ∙ length-uint a.n) }
