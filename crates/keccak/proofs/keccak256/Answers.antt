-- `keccak::keccak256` meets its contract: at the loop's head the state is that of the blocks before. Assumes nothing.
use mathlib.Core.Path.{refl, ap, ◌∙◌}
use mathlib.Core.List.{List}
use Prim.Native.Nat.{ℕ}
use native.Mathlib.Omega.{arith}
use Rattle.keccak_steps.specs.Permutation.{keccak_f}
use Rattle.keccak_blocks.specs.Blocks.{xor_block, squeezed}
use Rattle.keccak.specs.Sponge.{absorbed}
use Rattle.keccak.proofs.Absorbing.{turn, finish}
use Rattle.keccak.proofs.keccak256.Goals as goal

pub loop-block-init : goal.loop-block-init
unfolding absorbed
loop-block-init c = refl

pub loop-block-preserved : goal.loop-block-preserved
loop-block-preserved c =
    let m = c.args.message.now in
    let chunks = c.as_chunks.result.0.now in
    c.absorb-next.ensures ∙ turn m c.loop-block.s c.loop-block.block-index c.loop-block.invariant chunks _ _ c.as_chunks.ensures.front (omega arith)

pub returns : goal.returns
returns c =
    let m = c.args.message.now in
    let s = c.loop-block.s in
    let i = c.loop-block.block-index in
    c.squeeze.ensures
    ∙ ap squeezed (c.absorb.ensures ∙ ap (λ (b : List ℕ). keccak_f (xor_block s b)) c.pad.ensures)
    ∙ finish m s i c.loop-block.invariant c.as_chunks.result.1.now (omega (arith, c.as_chunks.ensures.front_len)) c.as_chunks.ensures.back
