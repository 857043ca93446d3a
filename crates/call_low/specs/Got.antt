-- A call with a reading of 32 bits, as it got its clock (document 02, C-20). It is written as a `Call` whose milliseconds are the reading.
use Rattle.std.specs.Prelude.{ℕ, Bool, true, false, cond, List, [], ◌∷◌, Option, Some, None, Result, Ok, Err}
use Rattle.std.specs.Option.{ok_or}
use Rattle.octets.specs.Octets.{Bytes}
use Rattle.node.specs.declared.MonotonicMillis.{MonotonicMillis}
use Rattle.clock32.specs.Widened.{widened}
use Rattle.table_model.specs.Layout.{clock_of, header_sound}
use Rattle.call_history.specs.Model.{Call, datagram, ping_sent, sweep, closest, unclocked}
use Rattle.call_history.specs.Demand3.{clock_reading}
use Rattle.call_model.specs.Calls.{answer_on, bytes_after}
use Rattle.call_model.specs.Reading.{reading}
use Rattle.call_answer.specs.declared.Received.{Received}
use Rattle.call_answer.specs.Answer.{refusal}
use Rattle.call_datagram.specs.Received.{received}
use Rattle.call_low.specs.declared.ClockError.{ClockError}
use Rattle.call_low.specs.declared.ClockError.TheVariants.{Unsound, Back}

-- "All calls with a clock get it"
abbrev pub has_clock : Call → Bool
has_clock (datagram now unix address udp key bytes) = true
has_clock (ping_sent now key address udp tcp hash) = true
has_clock (sweep now) = true
has_clock (closest target room) = false
has_clock (unclocked c) = false

-- the call at other milliseconds
abbrev pub at_millis : Call → ℕ → Call
at_millis (datagram now unix address udp key bytes) t = datagram t unix address udp key bytes
at_millis (ping_sent now key address udp tcp hash) t = ping_sent t key address udp tcp hash
at_millis (sweep now) t = sweep t
at_millis (closest target room) t = closest target room
at_millis (unclocked c) t = unclocked c

-- at the full clock; or refused: "Otherwise the reading counts as going back and answers 2"
abbrev pub clocked : Option MonotonicMillis → Call → Call
clocked (Some t) c = at_millis c t.0
clocked None c = unclocked c

-- "a front that takes a 32-bit reading and the table's clock and gives the full clock"
unfoldable pub got : ℕ → Call → Call
got clock c = cond (has_clock c) (clocked (widened clock (clock_reading 0 c)) c) c

-- the full clock of a reading on a table's bytes, as `full_clock` tells it: 1 where the header isn't sound, else 2 or the clock
unfoldable pub full_clock : Bytes → ℕ → Result MonotonicMillis ClockError
full_clock s r = cond (header_sound s) (ok_or (widened (clock_of s) r) Back) (Err Unsound)

abbrev pub full_clock_number : Result MonotonicMillis ClockError → ℕ
full_clock_number (Err Unsound) = 1
full_clock_number (Err Back) = 2
full_clock_number (Ok t) = 0

-- a call's answer number on a table's bytes, and the bytes that it leaves
abbrev pub answer_low : Bytes → Call → ℕ
answer_low s c = answer_on reading s (got (clock_of s) c)

abbrev pub bytes_low : Bytes → Call → Bytes
bytes_low s c = bytes_after reading s (got (clock_of s) c)

-- the calls of a list, one after the other: "Demand 3 is read over the widened clock as each call got it"
abbrev pub got_all : Bytes → List Call → List Call
got_all s [] = []
got_all s (c ∷ cs) = got (clock_of s) c ∷ got_all (bytes_low s c) cs

-- the answer to a datagram as it got its clock
abbrev pub received_by : Option MonotonicMillis → Bytes → ℕ → ℕ → Bytes → ℕ → Bytes → Bytes → Received
received_by (Some t) s r unix address udp key g = received s t.0 unix address udp key g
received_by None s r unix address udp key g = refusal (answer_on reading s (unclocked (datagram r unix address udp key g)))

unfoldable pub received_low : Bytes → ℕ → ℕ → Bytes → ℕ → Bytes → Bytes → Received
received_low s r unix address udp key g = received_by (widened (clock_of s) r) s r unix address udp key g
