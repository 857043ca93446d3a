-- A line that is taken as a replay takes it, with what it did to a node.
use Rattle.std.specs.Prelude.{◌≤◌, ◌≡◌}
use Rattle.octets.specs.Octets.{Bytes}
use Rattle.bucket_lookup.specs.declared.Lookup.{Lookup}
use Rattle.log_lines.specs.Lines.{Held}
use Rattle.log_state.specs.declared.Replay.{Replay}
use Rattle.log_state.specs.State.{state_of}
use Rattle.log_history.specs.Past.{asked}
use Rattle.log_replay.specs.Replay.{after}
use Rattle.log_run.specs.Run.{number_on}
use Rattle.log_acts.specs.declared.Taken.{Taken}
use Rattle.log_acts.specs.Acts.{acts_of}

-- a line is taken, where X stood at l: the memory becomes m'
pub record ActedLine (X : Bytes) (replay : Replay) (l : Lookup) (line : Held) (memory : Bytes) (r : Taken) (m' : Bytes) : Type 0 where
  pub state : state_of r.replay m' ≡ after (state_of replay memory) line
  pub acted : r.acted ≡ acts_of X l (number_on (state_of replay memory) (asked line)) (asked line)
  pub count : r.replay.count ≤ 16
