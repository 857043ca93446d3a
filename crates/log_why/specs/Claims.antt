-- What is claimed of a log that is followed line by line.
use Rattle.std.specs.Prelude.{◌≤◌, ◌≡◌, List, ◌∷◌, length}
use Rattle.octets.specs.Octets.{Bytes}
use Rattle.log_lines.specs.Lines.{limit, Held}
use Rattle.log_lines.specs.Steps.{fresh}
use Rattle.log_lines.specs.Feeding.{Feeds, join}
use Rattle.log_history.specs.Why.{why}
use Rattle.log_history.specs.Trail.{reason_of}
use Rattle.log_why.specs.declared.Tracked.{Tracked}
use Rattle.log_why.specs.Tracking.{Starts, Notes}

-- whoever steps through the chunks of a log, however it is cut, and notes its lines one after the other, has the reason that the log's run gives
abbrev pub WhyOfLog : Type 0
WhyOfLog =
    (X buffer memory chunk : Bytes) (more : List Bytes) (lines : List Held) (begin end : Tracked) (last : Bytes) → limit ≤ length buffer
    → Feeds buffer fresh chunk 0 more lines → Starts begin → Notes X begin memory lines end last
    → reason_of end.trail ≡ why X (join (chunk ∷ more))
