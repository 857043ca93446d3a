-- What the two bursts share, as the functions inside promise it: `low` is whether the milliseconds are readings of 32 bits.
use Rattle.std.specs.Prelude.{ℕ, Bool, true, false, List, get_or}
use Rattle.octets.specs.Octets.{Bytes}
use Rattle.call_history.specs.Model.{Call}
use Rattle.call_model.specs.Calls.{answer_on, bytes_after}
use Rattle.call_model.specs.Reading.{reading}
use Rattle.call_low.specs.Got.{answer_low, bytes_low}
use Rattle.call_burst_step.specs.declared.Time.{Time}
use Rattle.call_burst_step.specs.declared.Time.TheVariants.{Full, Reading}

abbrev pub answer_by : Bool → Bytes → Call → ℕ
answer_by true = answer_low
answer_by false = answer_on reading

abbrev pub bytes_by : Bool → Bytes → Call → Bytes
bytes_by true = bytes_low
bytes_by false = bytes_after reading

-- one datagram's milliseconds
abbrev pub time_at : Bool → List ℕ → List ℕ → ℕ → Time
time_at true millis readings i = Reading (record { 0 = get_or readings i 0 })
time_at false millis readings i = Full (record { 0 = get_or millis i 0 })

abbrev pub is_reading : Time → Bool
is_reading (Full t) = false
is_reading (Reading r) = true

abbrev pub number_in : Time → ℕ
number_in (Full t) = t.0
number_in (Reading r) = r.0
