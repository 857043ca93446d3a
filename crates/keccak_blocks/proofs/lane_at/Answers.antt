-- `keccak_blocks::lane_at` meets its contract: the sum of the eight bytes, each at its place value. Assumes nothing.
use native.Mathlib.Omega.{arith}
use Rattle.keccak_blocks.specs.Blocks.{lane_at}
use Rattle.keccak_blocks.proofs.lane_at.Goals as goal

pub returns : goal.returns
unfolding lane_at
returns c = omega arith
