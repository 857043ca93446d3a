-- `keccak_pad::pad` meets its contract: the block holds the bytes of the tail over zeros, and the two stores add the padding. Assumes nothing.
use mathlib.Core.Path.{ap, ◌∙◌}
use mathlib.Core.List.{List, ◌++◌}
use Prim.Native.Nat.{ℕ}
use native.Mathlib.Omega.{arith}
use lib.ListN.{length, set, drop, replicate}
use Rattle.keccak_pad.proofs.Padding.{closed, pad_is}
use Rattle.keccak_pad.proofs.pad.Goals as goal

pub returns : goal.returns
returns c =
    let t = c.args.tail.now in
    ap (λ (l : List ℕ). closed (set (l ++ drop (length t) (replicate 136 0)) (length t) 0x01) 135) c.copy_from_slice.ensures.after ∙ pad_is t (omega arith)
