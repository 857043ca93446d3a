-- `keccak::absorb` meets its contract: the block is added, and the permutation follows. Assumes nothing.
use mathlib.Core.Path.{ap, ◌∙◌}
use Rattle.keccak_steps.specs.Permutation.{keccak_f}
use Rattle.keccak.proofs.absorb.Goals as goal

pub returns : goal.returns
returns c = c.permute.ensures ∙ ap keccak_f c.xor_block.ensures
