-- The line begun lies in its bytes.
use Rattle.std.specs.Prelude.{◌≤◌}
use Rattle.log_input.specs.declared.Ending.{Ending}
use Rattle.log_input.specs.declared.Ending.TheVariants.{Whole, Cut, Unwanted}

abbrev pub IsKept : Ending → Type 0
IsKept (Whole begun) = begun.len ≤ 3000
IsKept (Cut begun) = begun.len ≤ 3000
IsKept Unwanted = Unit {0}
