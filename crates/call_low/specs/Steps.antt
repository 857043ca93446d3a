-- The steps of the 32-bit calls, as the functions inside this crate promise them.
use Rattle.std.specs.Prelude.{ℕ, Bool, cond, not, ltb, length, Result, Err}
use Rattle.std.specs.Option.{ok_or}
use Rattle.octets.specs.Octets.{Bytes}
use Rattle.clock32.specs.Widened.{widened}
use Rattle.table_model.specs.Layout.{clock_of}
use Rattle.node.specs.declared.MonotonicMillis.{MonotonicMillis}
use Rattle.call_low.specs.declared.ClockError.{ClockError}
use Rattle.call_low.specs.declared.ClockError.TheVariants.{Unsound, Back}

-- the full clock on bytes that have room for a header, sound or not
unfoldable pub low_clock : Bytes → ℕ → Result MonotonicMillis ClockError
low_clock s r = cond (not (ltb (length s) 512)) (ok_or (widened (clock_of s) r) Back) (Err Unsound)

-- the answer number of a call whose reading went back: 1 before 2
abbrev pub back_number : Bool → ℕ
back_number unsound = cond unsound 1 2
