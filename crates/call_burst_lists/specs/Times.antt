-- The milliseconds of a burst, as the functions inside promise them: `low` is whether they are readings of 32 bits.
use Rattle.std.specs.Prelude.{ℕ, Bool, true, false, List}
use Rattle.octets.specs.Octets.{Bytes}
use Rattle.call_burst_lists.specs.Lists.{Burst, burst_of}

-- the list of the milliseconds
abbrev pub times_by : Bool → List ℕ → List ℕ → List ℕ
times_by true millis readings = readings
times_by false millis readings = millis

abbrev pub lent_by : Bool → Bytes → List ℕ → Bytes → Bytes → List ℕ → List ℕ → List ℕ → List ℕ → Burst
lent_by low buffer lengths signers addresses ports millis readings unix =
    burst_of buffer lengths signers addresses ports (times_by low millis readings) unix
