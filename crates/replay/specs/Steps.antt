-- What the program carries from line to line.
use Rattle.std.specs.Prelude.{ℕ, ◌≤◌, length}
use Rattle.octets.specs.Octets.{Bytes}
use Rattle.log_state.specs.declared.Replay.{Replay}
use Rattle.log_state.specs.State.{state_of}
use Rattle.log_replay.specs.Replay.{Reached}

-- the table and the output gathered lie in their bytes, and the lines so far led to the table
pub record Ready (memory out : Bytes) (replay : Replay) (used : ℕ) : Type 0 where
  pub memory_size : 46304 ≤ length memory
  pub out_size : 65536 ≤ length out
  pub count : replay.count ≤ 16
  pub used_size : used ≤ length out
  pub reached : Reached (state_of replay memory)
