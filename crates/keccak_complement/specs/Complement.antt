-- States with some lanes inverted, so that chi takes few inversions. Assumes nothing.
use Rattle.std.specs.Prelude.{List, [], ◌∷◌, ℕ, ◌-◌, ◌^◌}
use Rattle.keccak_steps.specs.Lanes.{◌⊕◌, lane, state_of}
use Rattle.keccak_steps.specs.Permutation.{theta, rho, pi}

-- two states added, lane by lane
unfoldable pub added : List ℕ → List ℕ → List ℕ
added a b = state_of (λ x y. lane a x y ⊕ lane b x y)

-- all ones
abbrev pub ones : ℕ
ones = 2 ^ 64 - 1

-- the lanes that are inverted between two rounds: (1, 0), (2, 0), (3, 1), (2, 2), (2, 3) and (0, 4). A row for each y
unfoldable pub mask : List ℕ
mask =
    0 ∷ ones ∷ ones ∷ 0 ∷ 0
    ∷ 0 ∷ 0 ∷ 0 ∷ ones ∷ 0
    ∷ 0 ∷ 0 ∷ ones ∷ 0 ∷ 0
    ∷ 0 ∷ 0 ∷ ones ∷ 0 ∷ 0
    ∷ ones ∷ 0 ∷ 0 ∷ 0 ∷ 0 ∷ []

unfoldable pub complement : List ℕ → List ℕ
complement a = added a mask

-- the lanes that are inverted before chi: those to which theta, rho and pi bring the mask
unfoldable pub complement_before_chi : List ℕ → List ℕ
complement_before_chi b = added b (pi (rho (theta mask)))
