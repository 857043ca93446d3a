-- The replay of a log (document 01, "Log and printout"): the answer to each line, and then the printout.
use Rattle.std.specs.Prelude.{cond, List, [], ◌∷◌, ◌++◌, map}
use Rattle.octets.specs.Octets.{Bytes}
use Rattle.lists.specs.Lists.{empty}
use Rattle.text.specs.Lines.{lines_of}
use Rattle.log_lines.specs.Lines.{Held, whole, too_long, held}
use Rattle.log_line.specs.declared.Line.{Line}
use Rattle.log_line.specs.declared.Line.TheVariants.{Own, Rx, Sent, Sweep, Unreadable}
use Rattle.log_line.specs.Fields.{said}
use Rattle.log_line.specs.Forms.{line_of}
use Rattle.call_history.specs.Model.{datagram, ping_sent, sweep}
use Rattle.call_model.specs.Calls.{answer_on, bytes_after}
use Rattle.call_model.specs.Reading.{reading}
use Rattle.call_datagram.specs.Received.{received}
use Rattle.log_answer.specs.AnswerRows.{number_row}
use Rattle.log_received.specs.AnswerLine.{received_row}
use Rattle.log_state.specs.State.{State, start_state}
use Rattle.log_own.specs.OwnLine.{own_answer, own_after}
use Rattle.printout.specs.Printout.{printout}

-- ---- a line, by what it says

unfoldable pub line_answer : State → Bytes → Line → Bytes
line_answer st line (Own buckets key) = number_row (own_answer st buckets (said line key))
line_answer st line (Rx now unix address port signer bytes) =
    received_row (received st.table now unix (said line address) port (said line signer) (said line bytes))
line_answer st line (Sent now key address udp tcp hash) =
    number_row (answer_on reading st.table (ping_sent now (said line key) (said line address) udp tcp (said line hash)))
line_answer st line (Sweep now) = number_row (answer_on reading st.table (sweep now))
line_answer st line Unreadable = number_row 21

-- after a call the table is what the call leaves
abbrev pub with_table : State → Bytes → State
with_table st s = record { owned = st.owned; table = s }

unfoldable pub line_after : State → Bytes → Line → State
line_after st line (Own buckets key) = own_after st buckets (said line key)
line_after st line (Rx now unix address port signer bytes) =
    with_table st (bytes_after reading st.table (datagram now unix (said line address) port (said line signer) (said line bytes)))
line_after st line (Sent now key address udp tcp hash) =
    with_table st (bytes_after reading st.table (ping_sent now (said line key) (said line address) udp tcp (said line hash)))
line_after st line (Sweep now) = with_table st (bytes_after reading st.table (sweep now))
line_after st line Unreadable = st

-- a line over the limit is of no form
unfoldable pub answer : State → Held → Bytes
answer st (whole line) = line_answer st line (line_of line)
answer st too_long = number_row 21

unfoldable pub after : State → Held → State
after st (whole line) = line_after st line (line_of line)
after st too_long = st

-- the states that lines lead to
pub data Reached : State → Type 0 where
  start : Reached start_state
  line : {st : State} → Reached st → (l : Held) → Reached (after st l)

-- ---- the whole log

-- "Then, if an `own` was accepted, the printout"
abbrev pub ending : State → Bytes
ending st = cond (empty st.table) [] (printout st.table)

abbrev pub output_from : State → List Held → Bytes
output_from st [] = ending st
output_from st (l ∷ ls) = answer st l ++ output_from (after st l) ls

unfoldable pub replayed : Bytes → Bytes
replayed log = output_from start_state (map held (lines_of log))
