-- A log followed line by line: the replay, where the node stands in its table, and its trail are those that the lines read so far give.
use Rattle.std.specs.Prelude.{◌+◌, ◌^◌, ◌≤◌, ◌<◌, ◌≡◌, not, List, [], ◌∷◌, length}
use Rattle.octets.specs.Octets.{Bytes}
use Rattle.lists.specs.Lists.{empty}
use Rattle.bucket.specs.declared.Position.TheVariants.{Absent}
use Rattle.bucket_lookup.specs.declared.Lookup.{Lookup}
use Rattle.bucket_lookup.specs.Steps.{found, in_entries}
use Rattle.log_lines.specs.Lines.{Held}
use Rattle.log_state.specs.State.{state_of}
use Rattle.log_history.specs.Past.{asked, Stage, Past, read_one}
use Rattle.log_history.specs.Why.{seat_in, held_in}
use Rattle.log_history.specs.Trail.{no_trail, trail_of}
use Rattle.log_replay.specs.Replay.{after, Reached}
use Rattle.log_replay.specs.Steps.{start_replay}
use Rattle.log_run.specs.Run.{SameLines}
use Rattle.log_why.specs.declared.Tracked.{Tracked}

-- l is where the node X stands, and its entry there
pub record Stands (X : Bytes) (g : Stage) (l : Lookup) : Type 0 where
  pub seated : in_entries l.position ≡ not (empty (seat_in X g))
  pub held : found l ≡ held_in X g

-- what is carried of X fits the lines read
pub record Tracks (X : Bytes) (at : Tracked) (memory : Bytes) (p : Past) : Type 0 where
  pub state : SameLines (state_of at.replay memory) p
  pub place : Stands X p.stage at.place
  pub trail : at.trail ≡ trail_of X p.lines

-- before the first line
pub record Starts (at : Tracked) : Type 0 where
  pub replay : at.replay ≡ start_replay
  pub place : at.place.position ≡ Absent
  pub trail : at.trail ≡ no_trail

-- what a line asks of the caller: room for the largest table, a table that lines led to, and fewer lines than 2^63
pub record Ready (at : Tracked) (memory : Bytes) : Type 0 where
  pub big : 46304 ≤ length memory
  pub count : at.replay.count ≤ 16
  pub reached : Reached (state_of at.replay memory)
  pub lines : at.trail.lines < 2 ^ 63

-- a line is noted: the replay's state is that of the replay, and what is carried of X fits the lines with one more
pub record NotedLine (X : Bytes) (at : Tracked) (line : Held) (memory : Bytes) (r : Tracked) (m' : Bytes) : Type 0 where
  pub state : state_of r.replay m' ≡ after (state_of at.replay memory) line
  pub tracks : (p : Past) → Tracks X at memory p → Tracks X r m' (read_one p (asked line))
  pub count : r.replay.count ≤ 16
  pub lines : r.trail.lines ≡ at.trail.lines + 1

-- lines noted one after the other, and what is carried and the memory after them
pub data Notes (X : Bytes) : Tracked → Bytes → List Held → Tracked → Bytes → Type 0 where
  done : {at : Tracked} {memory : Bytes} → Notes X at memory [] at memory
  next : {at r end : Tracked} {memory m' last : Bytes} {l : Held} {ls : List Held}
      → NotedLine X at l memory r m' → Notes X r m' ls end last → Notes X at memory (l ∷ ls) end last
