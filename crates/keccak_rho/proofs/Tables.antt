-- The published rule of the rotation offsets gives the published figures, by one equation that antt computes. An entry of the table
-- needs no law, since the code reads each of them at a known place. Assumes nothing.
use mathlib.Core.Path.{refl}
use Rattle.keccak_rho.specs.Offsets.{RotationOffsets}

pub rotation_offsets : RotationOffsets
rotation_offsets = refl
