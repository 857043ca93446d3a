use mathlib.Core.Path.{◌≡◌}
use Rattle.keccak.specs.Sponge.{absorbed}
use Rattle.keccak.proofs.keccak256.Given as goal

abbrev pub invariant-loop-block : goal.invariant-loop-block
invariant-loop-block l = l.s ≡ absorbed l.fn.message l.block-index
