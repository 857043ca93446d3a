-- The published rule of the round constants gives the published figures, by one equation that antt computes. Assumes nothing.
use mathlib.Core.Path.{◌≡◌, refl, ap, ◌∙◌, sym}
use mathlib.Core.List.{List}
use Prim.Native.Nat.{ℕ, ◌<◌}
use lib.ListN.{get_or}
use Rattle.keccak_steps.proofs.Laws.{list_of_at}
use Rattle.keccak_steps.specs.Permutation.{power, rc, constant_bits, round_constant}
use Rattle.keccak_f.specs.Constants.{published_constants, RoundConstants}

pub round_constants : RoundConstants
unfolding round_constant constant_bits rc power
round_constants = refl

-- an entry of the table
pub constant_at : (i : ℕ) → i < 24 → get_or published_constants i 0 ≡ round_constant i
constant_at i h = ap (λ (l : List ℕ). get_or l i 0) (sym round_constants) ∙ list_of_at round_constant 24 i h
