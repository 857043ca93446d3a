-- The replay of a log and its run by the rules, side by side: the same lines lead to the state of the one and to the stage of the other.
use Rattle.std.specs.Prelude.{ℕ, ◌≡◌, true}
use Rattle.call_model.specs.Calls.{answer_on}
use Rattle.call_model.specs.Reading.{reading}
use Rattle.call_model.specs.OverBytes.{encode}
use Rattle.log_lines.specs.Lines.{Held}
use Rattle.log_state.specs.State.{State, start_state}
use Rattle.log_own.specs.OwnLine.{own_answer}
use Rattle.log_history.specs.Past.{Asked, own, call, unreadable, asked, Stage, before, running, Past, nothing_read, read_one}
use Rattle.log_replay.specs.Replay.{after}
use Rattle.log_replay.specs.Claims.{without_table}

-- the same lines led to the replay's state and to the past of the run
pub data SameLines : State → Past → Type 0 where
  start : SameLines start_state nothing_read
  line : {st : State} {p : Past} → SameLines st p → (l : Held) → SameLines (after st l) (read_one p (asked l))

-- the replay's bytes are none before an accepted `own`, and else the one form of the stage's table
abbrev pub Shows : State → Stage → Type 0
Shows st (before owned) = st ≡ without_table owned
Shows st (running e t) = st ≡ record { owned = true; table = encode e.own t }

-- the number that the replay answers with
abbrev pub number_on : State → Asked → ℕ
number_on st (own buckets key) = own_answer st buckets key
number_on st (call c) = answer_on reading st.table c
number_on st unreadable = 21
