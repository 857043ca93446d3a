-- What is written for the lines of a log, however it is cut into chunks, is its replay. Assumes nothing.
use Prim.Native.Nat.{ℕ, ◌≤◌}
use mathlib.Core.Path.{◌≡◌, refl, ap, ap₂, ◌∙◌}
use mathlib.Core.List.{List, ◌∷◌, ◌++◌, append_assoc}
use native.Mathlib.Omega.{arith}
use lib.ListN.{length, take}
use Rattle.octets.specs.Octets.{Bytes, store}
use Rattle.log_lines.specs.Lines.{limit, Held, too_long}
use Rattle.log_lines.specs.Steps.{fresh}
use Rattle.log_lines.specs.Feeding.{Feeds, join}
use Rattle.log_lines.proofs.Chunks.{feeds_lines}
use Rattle.log_answer.specs.AnswerRows.{answer_room, number_row}
use Rattle.log_state.specs.declared.Replay.{Replay}
use Rattle.log_state.specs.State.{start_state, size_of, state_of}
use Rattle.log_state.proofs.Memory.{front-is}
use Rattle.log_replay.specs.Replay.{answer, after, ending, output_from, replayed}
use Rattle.log_replay.specs.Steps.{start_replay, AnsweredLine, Runs, done, next}
use Rattle.log_replay.specs.Claims.{ReplayOfLog}
use Rattle.log_replay.proofs.Answered.{unchanged}
use Rattle.log_replay.proofs.Kept.{Good, good_after}

pub start-state : (memory : Bytes) → state_of start_replay memory ≡ start_state
unfolding size_of
start-state memory = refl

-- what `too_long` writes answers a line over the limit
pub too_long_answered : (replay : Replay) (memory out : Bytes) → 46304 ≤ length memory → replay.count ≤ 16 → {out' : Bytes} {n : ℕ}
    → n ≡ length (number_row 21) → out' ≡ store out 0 (number_row 21) → n ≤ answer_room
    → AnsweredLine replay too_long memory out (record { replay = replay; len = n }) memory out'
unfolding after answer
too_long_answered replay memory out big few len written room = unchanged replay memory out big few (number_row 21) len written room

-- ---- lines answered one after the other

-- the table after them is none or a sound one
pub good_runs : {replay end : Replay} {memory last output : Bytes} {lines : List Held} → Runs replay memory lines output end last
    → Good (state_of replay memory) → Good (state_of end last)
good_runs done g = g
good_runs {replay} {end} {memory} (next {l = l} room h rest) g = good_runs rest (rw h.state (good_after (state_of replay memory) g l))

pub runs_output : {replay end : Replay} {memory last output : Bytes} {lines : List Held} → Runs replay memory lines output end last
    → output ++ ending (state_of end last) ≡ output_from (state_of replay memory) lines
runs_output done = refl
runs_output {replay} {end} {memory} {last} (next {out = out} {out' = out'} {output = output} {l = l} {ls = ls} {r = r} room h rest) =
    let a : Bytes = answer (state_of replay memory) l in
    let written : take r.len out' ≡ a =
    ap (λ k. take k out') h.len ∙ ap (take (length a)) h.written ∙ front-is out (length a) (omega (arith, h.len, h.room, room)) a refl in
    append_assoc (take r.len out') output (ending (state_of end last))
    ∙ ap₂ (λ x y. x ++ y) written (runs_output rest ∙ ap (λ st. output_from st ls) h.state)

-- the output of the lines of chunks is that of the log
pub feeds_output : (buffer chunk : Bytes) (more : List Bytes) (lines : List Held) → limit ≤ length buffer → Feeds buffer fresh chunk 0 more lines
    → output_from start_state lines ≡ replayed (join (chunk ∷ more))
unfolding replayed
feeds_output buffer chunk more lines h f = ap (output_from start_state) (feeds_lines buffer chunk more lines h f)

pub replay_of_log : ReplayOfLog
replay_of_log buffer memory chunk more lines output last end h f r =
    runs_output r ∙ ap (λ st. output_from st lines) (start-state memory) ∙ feeds_output buffer chunk more lines h f
