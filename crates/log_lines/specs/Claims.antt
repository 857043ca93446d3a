-- What is claimed of the lines of a log: any chunking of a log gives its lines, a line over 3,000 bytes as one unreadable line that is
-- never stored whole.
use Rattle.std.specs.Prelude.{◌≤◌, ◌≡◌, List, ◌++◌, map, length}
use Rattle.octets.specs.Octets.{Bytes}
use Rattle.text.specs.Lines.{lines_of}
use Rattle.log_lines.specs.Lines.{limit, Held, held}
use Rattle.log_lines.specs.Steps.{fresh}
use Rattle.log_lines.specs.Feeding.{Feeds, join}

-- whoever steps through the chunks of a log is told its lines, in order, however it is cut
abbrev pub FeedsLines : Type 0
FeedsLines =
    (buffer chunk : Bytes) (more : List Bytes) (lines : List Held) → limit ≤ length buffer → Feeds buffer fresh chunk 0 more lines
    → lines ≡ map held (lines_of (chunk ++ join more))

-- and such a caller comes to the end
abbrev pub FeedsEnds : Type 0
FeedsEnds = (buffer chunk : Bytes) (more : List Bytes) → (lines : List Held) × Feeds buffer fresh chunk 0 more lines
