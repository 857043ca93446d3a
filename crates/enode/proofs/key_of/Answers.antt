-- `enode::key_of` meets its contract. Assumes nothing.
use mathlib.Core.Path.{◌≡◌, ◌∙◌}
use lib.ListN.{length}
use Rattle.octets.specs.Octets.{Bytes, part}
use Rattle.octets.proofs.Laws.{length_part, store_all}
use Rattle.text.specs.Hex.{unhex}
use Rattle.text.proofs.Hex.{length-unhex}
use Prim.Native.Nat.{◌≤◌}
use native.Mathlib.Omega.{arith}
use Rattle.enode.proofs.key_of.Goals as goal

key_size : (l : Bytes) → 137 ≤ length l → length (unhex (part l 8 128)) ≡ 64
key_size l h = omega (arith, length-unhex (part l 8 128), length_part l 8 128 (omega arith))

pub put_unhex-requires : goal.put_unhex-requires
unfolding part
put_unhex-requires c = omega (arith, key_size c.args.line.now (omega arith))

pub returns : goal.returns
unfolding part
returns c = let l = c.args.line.now in
    c.put_unhex.ensures.bytes ∙ store_all _ (unhex (part l 8 128)) (key_size l (omega arith))
