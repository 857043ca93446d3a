-- What a caller is told that steps through the chunks of a log one after the other.
use Rattle.std.specs.Prelude.{ℕ, ◌≤◌, ◌≡◌, cond, List, [], ◌∷◌, ◌++◌, length, take, drop}
use Rattle.octets.specs.Octets.{Bytes}
use Rattle.log_lines.specs.Lines.{limit, Held, whole, too_long, to_come}
use Rattle.log_lines.specs.Steps.{fresh, step_of, buffer_after, last_of}
use Rattle.log_lines.specs.declared.Begun.{Begun}
use Rattle.log_lines.specs.declared.Step.{Step}
use Rattle.log_lines.specs.declared.Step.TheVariants as step
use Rattle.log_lines.specs.declared.Last.{Last}
use Rattle.log_lines.specs.declared.Last.TheVariants as last

-- the line begun
unfoldable pub held_in : Bytes → Begun → Held
held_in buffer b = cond b.over too_long (whole (take b.len buffer))

-- the buffer holds a line, and the line begun is within it
pub record Room (buffer : Bytes) (b : Begun) : Type 0 where
  pub buffer_size : limit ≤ length buffer
  pub line_size : b.len ≤ limit

-- what a step tells, and the lines still to come after it, where rest is the log after the chunk
unfoldable pub told : Bytes → Step → Bytes → Bytes → List Held
told buffer (step.Line len next) chunk rest = whole (take len buffer) ∷ to_come (whole []) (drop next chunk ++ rest)
told buffer (step.TooLong next) chunk rest = too_long ∷ to_come (whole []) (drop next chunk ++ rest)
told buffer (step.More b) chunk rest = to_come (held_in buffer b) rest

-- what the log's end tells
unfoldable pub told_last : Bytes → Last → List Held
told_last buffer (last.Line len) = whole (take len buffer) ∷ []
told_last buffer last.TooLong = too_long ∷ []
told_last buffer last.Nothing = []

-- a caller that steps through chunk from index at, then through the chunks of more, and then ends, is told these lines
pub data Feeds : Bytes → Begun → Bytes → ℕ → List Bytes → List Held → Type 0 where
  line : {buffer chunk : Bytes} {b : Begun} {at : ℕ} {more : List Bytes} {lines : List Held} (len next : ℕ) → step_of b chunk at ≡ step.Line len next
      → Feeds (buffer_after buffer b chunk at) fresh chunk next more lines
      → Feeds buffer b chunk at more (whole (take len (buffer_after buffer b chunk at)) ∷ lines)
  long : {buffer chunk : Bytes} {b : Begun} {at : ℕ} {more : List Bytes} {lines : List Held} (next : ℕ) → step_of b chunk at ≡ step.TooLong next
      → Feeds (buffer_after buffer b chunk at) fresh chunk next more lines
      → Feeds buffer b chunk at more (too_long ∷ lines)
  on : {buffer chunk c : Bytes} {b : Begun} {at : ℕ} {more : List Bytes} {lines : List Held} (b' : Begun) → step_of b chunk at ≡ step.More b'
      → Feeds (buffer_after buffer b chunk at) b' c 0 more lines
      → Feeds buffer b chunk at (c ∷ more) lines
  end : {buffer chunk : Bytes} {b : Begun} {at : ℕ} (b' : Begun) → step_of b chunk at ≡ step.More b'
      → Feeds buffer b chunk at [] (told_last (buffer_after buffer b chunk at) (last_of b'))

-- the log of these chunks
abbrev pub join : List Bytes → Bytes
join [] = []
join (c ∷ more) = c ++ join more
