-- The log is followed from line to line. Assumes nothing.
use Prim.Native.Nat.{◌≤◌, ◌<◌}
use mathlib.Core.Path.{◌≡◌, refl}
use native.Mathlib.Omega.{arith}
use lib.ListN.{length}
use Rattle.octets.specs.Octets.{Bytes}
use Rattle.log_lines.specs.Lines.{Held}
use Rattle.log_replay.specs.Replay.{start, line}
use Rattle.log_replay.specs.Steps.{start_replay}
use Rattle.log_state.specs.State.{start_state, size_of, state_of}
use Rattle.log_why.specs.declared.Tracked.{Tracked}
use Rattle.log_why.specs.Tracking.{NotedLine, Ready, Starts}

-- no line has come
start_state_is : (memory : Bytes) → state_of start_replay memory ≡ start_state
unfolding size_of
start_state_is memory = refl

-- before the first line
pub at_start : (memory : Bytes) (at : Tracked) → 46304 ≡ length memory → Starts at → Ready at memory
at_start memory at e s =
    record { big = omega arith; count = rw s.replay (omega arith); reached = rw (s.replay, start_state_is memory) start; lines = rw s.trail (omega arith) }

-- a line was noted
pub after_line : {X memory m' : Bytes} {at r : Tracked} (l : Held) → Ready at memory → at.trail.lines < 9223372036854775807 → NotedLine X at l memory r m'
    → length m' ≡ length memory → Ready r m'
after_line l h few a same = record { big = omega (arith, same, h.big); count = a.count; reached = rw a.state (line h.reached l); lines = omega (arith, a.lines) }
