-- The run of a log is the replay's. Assumes nothing.
use Prim.Native.Nat.{ℕ}
use mathlib.Core.Path.{◌≡◌, refl, sym, ap, ◌∙◌}
use mathlib.Core.List.{List, []}
use Rattle.octets.specs.Octets.{Bytes}
use Rattle.text.specs.Decimals.{decimal}
use Rattle.text.specs.Rows.{row}
use Rattle.call_answer.specs.Answer.{number_of}
use Rattle.call_datagram.specs.Received.{received}
use Rattle.call_datagram.proofs.Answered.{answer-number}
use Rattle.log_received.specs.AnswerLine.{added_fields, received_row}
use Rattle.log_lines.specs.Lines.{Held, whole, too_long}
use Rattle.log_line.specs.declared.Line.{Line}
use Rattle.log_line.specs.declared.Line.TheVariants.{Own, Rx, Sent, Sweep, Unreadable}
use Rattle.log_line.specs.Fields.{said}
use Rattle.log_line.specs.Forms.{line_of}
use Rattle.log_state.specs.State.{State}
use Rattle.log_history.specs.Past.{asked_by, asked, number_at, Past}
use Rattle.log_replay.specs.Replay.{line_answer, answer}
use Rattle.log_run.specs.Run.{SameLines, number_on}
use Rattle.log_run.specs.Claims.{RunIsReplay}
use Rattle.log_run.proofs.Kept.{kept, same_number, kept_shows}

-- a row that begins with the number n
abbrev Begins : Bytes → ℕ → Type 0
Begins a n = (fields : List Bytes) × (a ≡ row (decimal n) fields)

by_kind : (st : State) (line : Bytes) (l : Line) → Begins (line_answer st line l) (number_on st (asked_by line l))
unfolding line_answer received_row
by_kind st line (Own buckets key) = ([], refl)
by_kind st line (Rx now unix address port signer bytes) =
    let r = received st.table now unix (said line address) port (said line signer) (said line bytes) in
    let fields : List Bytes = added_fields r.outcome r.head.key in (
      fields,
      ap (λ n. row (decimal n) fields) (answer-number st.table now (record { 0 = unix }) (said line address) port (said line signer) (said line bytes)),
    )
by_kind st line (Sent now key address udp tcp hash) = ([], refl)
by_kind st line (Sweep now) = ([], refl)
by_kind st line Unreadable = ([], refl)

replay_begins : (st : State) (l : Held) → Begins (answer st l) (number_on st (asked l))
unfolding answer asked
replay_begins st (whole line) = by_kind st line (line_of line)
replay_begins st too_long = ([], refl)

pub run_is_replay : RunIsReplay
run_is_replay =
    record {
      shows = λ st p r. kept_shows st p.stage (kept r);
      answers = λ st p r l. rw (sym (same_number r l)) (replay_begins st l);
    }
