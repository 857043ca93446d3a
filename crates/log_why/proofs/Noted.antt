-- A line that is taken, with where the node stands after it and its trail, is noted. Assumes nothing.
use Prim.Native.Nat.{ℕ, ◌+◌, ◌≤◌}
use mathlib.Core.Path.{◌≡◌, refl, sym, ap, ◌∙◌}
use mathlib.Core.Bool.{true, false}
use native.Mathlib.Numerals.{add-one}
use Rattle.octets.specs.Octets.{Bytes}
use Rattle.lists.proofs.Laws.{by_test, never}
use Rattle.bucket_lookup.specs.declared.Lookup.{Lookup}
use Rattle.log_lines.specs.Lines.{Held, too_long}
use Rattle.log_state.specs.declared.Replay.{Replay}
use Rattle.log_state.specs.State.{state_of}
use Rattle.log_history.specs.Past.{asked, number_at, stage_after, Past, read_one}
use Rattle.log_history.specs.declared.Trail.{Trail}
use Rattle.log_history.specs.Trail.{trail_of}
use Rattle.log_replay.specs.Replay.{after}
use Rattle.log_run.specs.Run.{SameLines, line as next-line}
use Rattle.log_run.proofs.Kept.{kept, same_number}
use Rattle.log_acts.specs.declared.Acted.{Acted}
use Rattle.log_acts.specs.declared.Taken.{Taken}
use Rattle.log_why.specs.declared.Tracked.{Tracked}
use Rattle.log_acts.specs.Acts.{idle, acts_of}
use Rattle.log_why.specs.Steps.{trail_by}
use Rattle.log_acts.specs.ActedLine.{ActedLine}
use Rattle.log_why.specs.Tracking.{Stands, Tracks, NotedLine}
use Rattle.log_why.proofs.Acts.{trail_step, unlooked}

lines_more : (t : Trail) (a : Acted) (l l' : Lookup) → (trail_by t a l l').lines ≡ t.lines + 1
unfolding trail_by
lines_more t a l l' = sym (add-one t.lines)

module _ (X : Bytes) (at : Tracked) (line : Held) (memory : Bytes) {taken : Taken} {m' : Bytes} {l' : Lookup} {t' : Trail}
    (done : ActedLine X at.replay at.place line memory taken m')
    (there : taken.acted.looks ≡ true → (p : Past) → SameLines (state_of taken.replay m') p → Stands X p.stage l')
    (same : taken.acted.looks ≡ false → l' ≡ at.place)
    (trail : t' ≡ trail_by at.trail taken.acted at.place l') where
  tracks_on : (p : Past) → Tracks X at memory p → Tracks X (record { replay = taken.replay; place = l'; trail = t' }) m' (read_one p (asked line))
  unfolding trail_of
  tracks_on p t =
      let n : ℕ = number_at p.stage (asked line) in
      let lead : SameLines (state_of taken.replay m') (read_one p (asked line)) = rw done.state (next-line t.state line) in
      let acted : taken.acted ≡ acts_of X at.place n (asked line) = done.acted ∙ ap (λ k. acts_of X at.place k (asked line)) (same_number t.state line) in
      let stands : Stands X (stage_after p.stage (asked line)) l' =
      by_test taken.acted.looks
      (λ y. there y (read_one p (asked line)) lead)
      (λ y. rw (same y) (unlooked X at.place _ p.stage (kept t.state) t.place n (asked line) (ap (λ (a : Acted). a.looks) (sym acted) ∙ y))) in
      record {
        state = lead;
        place = stands;
        trail =
            trail
            ∙ ap (λ a. trail_by at.trail a at.place l') acted
            ∙ ap (λ k. trail_by k (acts_of X at.place n (asked line)) at.place l') t.trail
            ∙ trail_step X _ p.stage (kept t.state) (asked line) at.place l' t.place stands (trail_of X p.lines);
      }

  pub noted : NotedLine X at line memory (record { replay = taken.replay; place = l'; trail = t' }) m'
  noted =
      record {
        state = done.state;
        tracks = tracks_on;
        count = done.count;
        lines = ap (λ (t : Trail). t.lines) trail ∙ lines_more at.trail taken.acted at.place l';
      }

-- a line over the limit
long_acted : (X : Bytes) (replay : Replay) (place : Lookup) (memory : Bytes) → replay.count ≤ 16 → {a : Acted} → a ≡ idle 21
    → ActedLine X replay place too_long memory (record { replay = replay; acted = a }) memory
unfolding after asked acts_of
long_acted X replay place memory few e = record { state = refl; acted = e; count = few }

pub noted_long : (X : Bytes) (at : Tracked) (memory : Bytes) → at.replay.count ≤ 16 → {a : Acted} {t' : Trail} → a ≡ idle 21
    → t' ≡ trail_by at.trail a at.place at.place
    → NotedLine X at too_long memory (record { replay = at.replay; place = at.place; trail = t' }) memory
noted_long X at memory few e trail =
    noted X at too_long memory (long_acted X at.replay at.place memory few e)
    (λ y. never (sym y ∙ ap (λ (a : Acted). a.looks) e)) (λ _. refl) trail
