-- A line that is answered, by what it says. Assumes nothing.
use Prim.Native.Nat.{ℕ, ◌-◌, ◌≤◌}
use mathlib.Core.Path.{◌≡◌, refl, sym, ap, ◌∙◌}
use mathlib.Core.List.{◌++◌}
use native.Mathlib.Omega.{arith}
use lib.ListN.{length, take, drop}
use lib.Seq.{length-take-le}
use Rattle.octets.specs.Octets.{Bytes, store}
use Rattle.log_lines.specs.Lines.{whole}
use Rattle.log_line.specs.declared.Line.{Line}
use Rattle.log_line.specs.Forms.{line_of}
use Rattle.log_answer.specs.AnswerRows.{answer_room}
use Rattle.log_state.specs.declared.Replay.{Replay}
use Rattle.log_state.specs.declared.Stepped.{Stepped}
use Rattle.log_state.specs.State.{size_of, state_of, Answered}
use Rattle.log_state.proofs.Memory.{size_fits, front-stored, front-is, front_same, front_part}
use Rattle.log_replay.specs.Replay.{with_table, line_answer, line_after, answer, after}
use Rattle.log_replay.specs.Steps.{AnsweredLine}

module _ (replay : Replay) (memory out : Bytes) (big : 46304 ≤ length memory) (few : replay.count ≤ 16) where
  -- where nothing changes
  pub unchanged : {out' : Bytes} {n : ℕ} (a : Bytes) → n ≡ length a → out' ≡ store out 0 a → n ≤ answer_room
      → Answered (state_of replay memory) a memory out (record { replay = replay; len = n }) memory out'
  unchanged a len written room =
      record {
        state = refl;
        bytes = sym (front_same memory (size_of replay.count) (size_fits replay memory big few));
        len = len;
        written = written;
        count = few;
        room = room;
      }

  -- where a call answers `answers s` on the table s, and leaves `leaves s`
  pub called : (answers leaves : Bytes → Bytes) (z : ℕ) → z ≡ size_of replay.count → {n : ℕ} {v m' out' : Bytes}
      → n ≡ length (answers (take (z - 0) (drop 0 memory)))
      → out' ≡ store out 0 (answers (take (z - 0) (drop 0 memory)))
      → v ≡ leaves (take (z - 0) (drop 0 memory)) → n ≤ answer_room
      → length v ≡ length (take (z - 0) (drop 0 memory))
      → m' ≡ take 0 memory ++ (v ++ drop (z - 0) (drop 0 memory))
      → Answered (with_table (state_of replay memory) (leaves (take (size_of replay.count) memory))) (answers (take (size_of replay.count) memory)) memory out
      (record { replay = replay; len = n }) m' out'
  called answers leaves z ez {n} {v} {m'} {out'} len written ev room kept em =
      let lent : take (z - 0) (drop 0 memory) ≡ take (size_of replay.count) memory = front_part memory z ∙ ap (λ k. take k memory) ez in
      let fits : z ≤ length memory = omega (arith, size_fits replay memory big few) in
      let size : length v ≡ z = kept ∙ ap length (front_part memory z) ∙ length-take-le z memory fits in
      let back : m' ≡ store memory 0 v = em ∙ front-stored memory z fits v size in
      let left : v ≡ leaves (take (size_of replay.count) memory) = ev ∙ ap leaves lent in
      let there : take (size_of replay.count) m' ≡ leaves (take (size_of replay.count) memory) =
      ap (λ k. take k m') (sym ez) ∙ ap (take z) back ∙ front-is memory z fits v size ∙ left in
      record {
        state = ap (with_table (state_of replay memory)) there;
        bytes = back ∙ ap (store memory 0) left;
        len = len ∙ ap (λ s. length (answers s)) lent;
        written = written ∙ ap (λ s. store out 0 (answers s)) lent;
        count = few;
        room = room;
      }

-- ---- by what the line says

pub by_line : (replay : Replay) (line memory out : Bytes) (l : Line) {r : Stepped} {m' out' : Bytes} → line_of line ≡ l
    → Answered (line_after (state_of replay memory) line l) (line_answer (state_of replay memory) line l) memory out r m' out'
    → AnsweredLine replay (whole line) memory out r m' out'
unfolding after answer
by_line replay line memory out l e h = rw e h
