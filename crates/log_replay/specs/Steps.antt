-- The lines of a log are answered one after the other.
use Rattle.std.specs.Prelude.{◌≤◌, false, List, [], ◌∷◌, ◌++◌, length, take}
use Rattle.octets.specs.Octets.{Bytes}
use Rattle.log_lines.specs.Lines.{Held}
use Rattle.log_answer.specs.AnswerRows.{answer_room}
use Rattle.log_state.specs.declared.Replay.{Replay}
use Rattle.log_state.specs.declared.Stepped.{Stepped}
use Rattle.log_state.specs.State.{state_of, Answered}
use Rattle.log_replay.specs.Replay.{answer, after}

-- before the first line
abbrev pub start_replay : Replay
start_replay = record { owned = false; count = 0 }

-- a line is answered by the rules
abbrev pub AnsweredLine : Replay → Held → Bytes → Bytes → Stepped → Bytes → Bytes → Type 0
AnsweredLine replay l memory out = Answered (after (state_of replay memory) l) (answer (state_of replay memory) l) memory out

-- lines answered one after the other: what was written for them, and the replay and the memory after them
pub data Runs : Replay → Bytes → List Held → Bytes → Replay → Bytes → Type 0 where
  done : {replay : Replay} {memory : Bytes} → Runs replay memory [] [] replay memory
  next : {replay end : Replay} {memory m' out out' last output : Bytes} {l : Held} {ls : List Held} {r : Stepped}
      → answer_room ≤ length out → AnsweredLine replay l memory out r m' out' → Runs r.replay m' ls output end last
      → Runs replay memory (l ∷ ls) (take r.len out' ++ output) end last
