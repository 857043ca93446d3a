-- The run of a log by the rules is the replay's.
use Rattle.std.specs.Prelude.{◌≡◌, List}
use Rattle.octets.specs.Octets.{Bytes}
use Rattle.text.specs.Decimals.{decimal}
use Rattle.text.specs.Rows.{row}
use Rattle.log_lines.specs.Lines.{Held}
use Rattle.log_state.specs.State.{State}
use Rattle.log_history.specs.Past.{asked, number_at, Past}
use Rattle.log_replay.specs.Replay.{answer}
use Rattle.log_run.specs.Run.{SameLines, Shows}

pub record RunIsReplay : Type 0 where
  -- after any lines the replay's bytes are those of the run's table
  pub shows : (st : State) (p : Past) → SameLines st p → Shows st p.stage
  -- and the row that answers the next line begins with the run's number
  pub answers : (st : State) (p : Past) → SameLines st p → (l : Held)
      → (fields : List Bytes) × (answer st l ≡ row (decimal (number_at p.stage (asked l))) fields)
