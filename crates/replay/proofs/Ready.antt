-- The program stays ready from line to line. Assumes nothing.
use Prim.Native.Nat.{ℕ, ◌+◌, ◌≤◌}
use mathlib.Core.Path.{◌≡◌, refl, ap}
use native.Mathlib.Omega.{arith}
use lib.ListN.{length}
use Rattle.octets.specs.Octets.{Bytes}
use Rattle.octets.proofs.Laws.{length-store}
use Rattle.log_lines.specs.Lines.{Held}
use Rattle.log_answer.specs.AnswerRows.{answer_room}
use Rattle.log_state.specs.declared.Replay.{Replay}
use Rattle.log_state.specs.declared.Stepped.{Stepped}
use Rattle.log_state.specs.State.{start_state, size_of, state_of}
use Rattle.log_replay.specs.Replay.{after, start, line}
use Rattle.log_replay.specs.Steps.{start_replay, AnsweredLine}
use Rattle.replay.specs.Steps.{Ready}

-- no line has come
start_state_is : (memory : Bytes) → state_of start_replay memory ≡ start_state
unfolding size_of
start_state_is memory = refl

-- before the first line
pub at_start : (memory out : Bytes) (replay : Replay) → 46304 ≤ length memory → 65536 ≤ length out → replay ≡ start_replay → Ready memory out replay 0
at_start memory out replay em eo er =
    record {
      memory_size = em;
      out_size = eo;
      count = rw er (omega arith);
      used_size = omega arith;
      reached = rw (er, start_state_is memory) start;
    }

-- a line was answered, at an index of the output with room for it
pub after_line : {memory out m' o o' : Bytes} {replay : Replay} {used : ℕ} {r : Stepped} (l : Held) → Ready memory out replay used
    → AnsweredLine replay l memory o r m' o' → (out' : Bytes) (at : ℕ) → at + answer_room ≤ length out → length out' ≡ length out
    → Ready m' out' r.replay (at + r.len)
after_line {memory} {replay = p} l h a out' at room same =
    record {
      memory_size = omega (arith, ap length a.bytes, length-store (after (state_of p memory) l).table memory 0, h.memory_size);
      out_size = omega (arith, same, h.out_size);
      count = a.count;
      used_size = omega (arith, same, room, a.room);
      reached = rw a.state (line h.reached l);
    }
