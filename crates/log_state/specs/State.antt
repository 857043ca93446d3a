-- The state of a replay, and that one line of a log is answered: the table is the first bytes of a memory that has room for any, and the answer is
-- written into lent bytes.
use Rattle.std.specs.Prelude.{ℕ, ◌≤◌, ◌≡◌, Bool, false, cond, [], eqb, length, take}
use Rattle.octets.specs.Octets.{Bytes, store}
use Rattle.table_model.specs.Layout.{offset_of}
use Rattle.log_answer.specs.AnswerRows.{answer_room}
use Rattle.log_state.specs.declared.Replay.{Replay}
use Rattle.log_state.specs.declared.Stepped.{Stepped}

-- `owned`: a well-formed `own` has come. `table` is empty until one is accepted.
pub record State : Type 0 where
  pub owned : Bool
  pub table : Bytes

abbrev pub start_state : State
start_state = record { owned = false; table = [] }

-- the bytes that a table of `count` buckets takes; none where no table was accepted
unfoldable pub size_of : ℕ → ℕ
size_of count = cond (eqb count 0) 0 (offset_of count)

abbrev pub state_of : Replay → Bytes → State
state_of r memory = record { owned = r.owned; table = take (size_of r.count) memory }

-- the memory becomes m' and the lent bytes out'; st' is the state after the line, and a its answer
pub record Answered (st' : State) (a : Bytes) (memory out : Bytes) (r : Stepped) (m' out' : Bytes) : Type 0 where
  pub state : state_of r.replay m' ≡ st'
  pub bytes : m' ≡ store memory 0 st'.table
  pub len : r.len ≡ length a
  pub written : out' ≡ store out 0 a
  pub count : r.replay.count ≤ 16
  pub room : r.len ≤ answer_room
