-- Keccak-256: the sponge over Keccak-f[1600] with a rate of 136 bytes, the padding of the original Keccak and 32 bytes of output.
-- Assumes nothing.
use Rattle.std.specs.Prelude.{List, ℕ, zero, suc, ◌*◌, ◌/◌, length, take, drop, replicate}
use Rattle.keccak_steps.specs.Permutation.{keccak_f}
use Rattle.keccak_pad.specs.Padding.{rate, padded}
use Rattle.keccak_blocks.specs.Blocks.{xor_block, squeezed}

-- block k of a padded message
abbrev pub block_at : List ℕ → ℕ → List ℕ
block_at p k = take rate (drop (rate * k) p)

-- the state after the first k blocks
unfoldable pub absorbed : List ℕ → ℕ → List ℕ
absorbed p zero = replicate 25 0
absorbed p (suc k) = keccak_f (xor_block (absorbed p k) (block_at p k))

unfoldable pub keccak256 : List ℕ → List ℕ
keccak256 m = squeezed (absorbed (padded m) (length (padded m) / rate))
