-- The published figures of the rotation offsets.
use Rattle.std.specs.Prelude.{◌≡◌, List, [], ◌∷◌, ℕ}
use Rattle.keccak_steps.specs.Permutation.{offsets}

-- a row for each y
abbrev pub published_offsets : List ℕ
published_offsets =
    0 ∷ 1 ∷ 62 ∷ 28 ∷ 27
    ∷ 36 ∷ 44 ∷ 6 ∷ 55 ∷ 20
    ∷ 3 ∷ 10 ∷ 43 ∷ 25 ∷ 39
    ∷ 41 ∷ 45 ∷ 15 ∷ 21 ∷ 8
    ∷ 18 ∷ 2 ∷ 61 ∷ 56 ∷ 14 ∷ []

-- the published rule gives them
abbrev pub RotationOffsets : Type 0
RotationOffsets = offsets ≡ published_offsets
