-- What is claimed of the replay of a log.
use Rattle.std.specs.Prelude.{◌≤◌, ◌≡◌, Bool, true, false, List, [], ◌∷◌, ◌++◌, length}
use Rattle.octets.specs.Octets.{Bytes}
use Rattle.log_lines.specs.Lines.{limit, Held, whole}
use Rattle.log_lines.specs.Steps.{fresh}
use Rattle.log_lines.specs.Feeding.{Feeds, join}
use Rattle.log_line.specs.declared.Line.{Line}
use Rattle.log_line.specs.declared.Line.TheVariants.{Own, Rx, Sent, Sweep, Unreadable}
use Rattle.log_line.specs.Forms.{line_of}
use Rattle.log_answer.specs.AnswerRows.{number_row}
use Rattle.log_state.specs.declared.Replay.{Replay}
use Rattle.log_state.specs.State.{State, state_of}
use Rattle.log_replay.specs.Replay.{answer, after, ending, replayed}
use Rattle.log_replay.specs.Steps.{start_replay, Runs}

-- whoever steps through the chunks of a log, however it is cut, answers its lines one after the other and then prints, writes the replay
-- of the log
abbrev pub ReplayOfLog : Type 0
ReplayOfLog =
    (buffer memory chunk : Bytes) (more : List Bytes) (lines : List Held) (output last : Bytes) (end : Replay) → limit ≤ length buffer
    → Feeds buffer fresh chunk 0 more lines → Runs start_replay memory lines output end last
    → output ++ ending (state_of end last) ≡ replayed (join (chunk ∷ more))

-- a line that calls
abbrev pub is_call_line : Line → Bool
is_call_line (Own buckets key) = false
is_call_line (Rx now unix address port signer bytes) = true
is_call_line (Sent now key address udp tcp hash) = true
is_call_line (Sweep now) = true
is_call_line Unreadable = false

-- no `own` was accepted
abbrev pub without_table : Bool → State
without_table owned = record { owned = owned; table = [] }

-- "a call line before an accepted `own` gets 1", and changes nothing
abbrev pub NoTable : Type 0
NoTable =
    (owned : Bool) (line : Bytes) → is_call_line (line_of line) ≡ true
    → (answer (without_table owned) (whole line) ≡ number_row 1) × (after (without_table owned) (whole line) ≡ without_table owned)
