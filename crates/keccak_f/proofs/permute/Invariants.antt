use mathlib.Core.Path.{◌≡◌}
use Prim.Native.Nat.{◌*◌}
use Rattle.keccak_steps.specs.Permutation.{rounds}
use Rattle.keccak_complement.specs.Complement.{complement}
use Rattle.keccak_f.proofs.permute.Given as goal

abbrev pub invariant-loop-i : goal.invariant-loop-i
invariant-loop-i l = complement l.s ≡ rounds (2 * l.i) (complement l.initial.s)
