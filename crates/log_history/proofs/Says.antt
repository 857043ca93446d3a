-- The reason told and the tables: it says seated, waiting or removed as they have it, and who was ever held is named. Assumes nothing.
use Prim.Native.Nat.{ℕ, suc, ◌+◌, ◌<◌}
use mathlib.Core.Path.{◌≡◌, refl, sym, ap, ◌∙◌}
use mathlib.Core.Bool.{Bool, true, false, not, ◌&&◌, ◌||◌}
use mathlib.Core.List.{List, [], ◌∷◌, ◌++◌}
use native.Mathlib.Omega.{arith}
use borrow.Author.Tests.{ltb-true, ltb-false}
use lib.Dec.{ltb}
use lib.ListN.{length, length-append}
use Rattle.octets.specs.Octets.{Bytes}
use Rattle.lists.specs.Lists.{any, empty, All}
use Rattle.lists.proofs.Laws.{by_test, never as clash}
use Rattle.log_history.specs.declared.Reason.{Reason}
use Rattle.log_history.specs.declared.Reason.TheVariants.{Seated, Waiting}
use Rattle.log_history.specs.Past.{Asked, Stage, before, stage_after, Moment, Past, nothing_read, read_one, read_all}
use Rattle.log_history.specs.Why.{seat_in, place_in, held_in, seats, joins, removes, tails, names, overdue_at, last_line, not_held, removed_at, latest, says_seated, says_waiting, says_removed, was_held}
use Rattle.log_history.proofs.Step.{SoundStage, after-sound, stage_once, at}
use Rattle.log_history.proofs.Held.{empty-is, empty-not, empty-same, gained, not-gained, lost, not-lost, seated-not-waiting, unheld-not-seated, joined-by-ping}

-- ---- a run, line by line

pub data Ran : Stage → List Moment → Type 0 where
  start : Ran (before false) []
  then : {st : Stage} {log : List Moment} (a : Asked) → Ran st log → Ran (stage_after st a) (at st a ∷ log)

ran_all : (p : Past) (more : List Asked) → Ran p.stage p.lines → Ran (read_all p more).stage (read_all p more).lines
ran_all p [] r = r
ran_all p (a ∷ more) r = ran_all (read_one p a) more (then a r)

pub ran : (more : List Asked) → Ran (read_all nothing_read more).stage (read_all nothing_read more).lines
ran more = ran_all nothing_read more start

pub ran_sound : {st : Stage} {log : List Moment} → Ran st log → SoundStage st
ran_sound start = tt
ran_sound (then {st = st} a r) = after-sound st a (ran_sound r)

-- ---- the latest line that did something to X

pub by_latest : (X : Bytes) (all : List Moment) (P : Reason → Type 0) (v : Moment) (log : List Moment)
    → (seats X v ≡ true → P (Seated (suc (length log)) (last_line (tails X) all)))
    → (seats X v ≡ false → joins X v ≡ true → P (Waiting (suc (length log))))
    → (removes X v ≡ true → P (removed_at X v log))
    → (seats X v ≡ false → joins X v ≡ false → removes X v ≡ false → P (latest X all log))
    → P (latest X all (v ∷ log))
unfolding latest
by_latest X all P v log f g h k =
    by_test (seats X v)
    (λ s. rw s (f s))
    (λ s. rw s (by_test (joins X v)
    (λ j. rw j (g s j))
    (λ j. rw j (by_test (removes X v) (λ r. rw r (h r)) (λ r. rw r (k s j r))))))

-- ---- what the reason says

-- `was`: X was held when some line came
pub record Says (X : Bytes) (st : Stage) (was : Bool) (r : Reason) : Type 0 where
  pub seat : says_seated r ≡ not (empty (seat_in X st))
  pub place : says_waiting r ≡ not (empty (place_in X st))
  pub gone : says_removed r ≡ (empty (held_in X st) && was)

once_more : (b was : Bool) → (b && was) ≡ (b && (not b || was))
once_more true was = refl
once_more false was = refl

module _ (X : Bytes) where
  says_never : (all : List Moment) → Says X (before false) false (not_held X all)
  says_never all =
      by_test (any (names X) all)
      (λ h. rw h (record { seat = refl; place = refl; gone = refl }))
      (λ h. rw h (record { seat = refl; place = refl; gone = refl }))

  module _ (st : Stage) (was : Bool) where
    abbrev seats₁ : ℕ
    seats₁ = length (seat_in X st)

    abbrev places₁ : ℕ
    places₁ = length (place_in X st)

    says-seated : (n m : ℕ) → 0 < seats₁ → places₁ ≡ 0 → Says X st was (Seated n m)
    says-seated n m h z =
        record {
          seat = rw (empty-not (seat_in X st) h);
          place = rw (empty-is (place_in X st) z);
          gone = rw (empty-not (held_in X st) (simp length-append (omega arith)));
        }

    says-waiting : (n : ℕ) → seats₁ ≡ 0 → 0 < places₁ → Says X st was (Waiting n)
    says-waiting n z h =
        record {
          seat = rw (empty-is (seat_in X st) z);
          place = rw (empty-not (place_in X st) h);
          gone = rw (empty-not (held_in X st) (simp length-append (omega arith)));
        }

    says-removed : (v : Moment) (log : List Moment) → seats₁ + places₁ ≡ 0 → was ≡ true → Says X st was (removed_at X v log)
    says-removed v log z h =
        let none : empty (held_in X st) ≡ true = empty-is (held_in X st) (simp length-append z) in
        by_test (overdue_at X v.given v.asks)
        (λ g. rw g (record {
          seat = rw (empty-is (seat_in X st) (omega arith));
          place = rw (empty-is (place_in X st) (omega arith));
          gone = rw (none, h);
        }))
        (λ g. rw g (record {
          seat = rw (empty-is (seat_in X st) (omega arith));
          place = rw (empty-is (place_in X st) (omega arith));
          gone = rw (none, h);
        }))

  -- a line that does none of the three
  says-still : (st : Stage) (a : Asked) → SoundStage st → (was : Bool) (r : Reason)
      → seats X (at st a) ≡ false → joins X (at st a) ≡ false → removes X (at st a) ≡ false
      → Says X st was r → Says X (stage_after st a) (not (empty (held_in X st)) || was) r
  says-still st a ok was r s j e says =
      let es = seat_in X st in
      let rs = place_in X st in
      let st' = stage_after st a in
      let es' = seat_in X st' in
      let rs' = place_in X st' in
      let once = stage_once X st ok in
      let unseated : length es ≡ 0 → length es' ≡ 0 = not-gained es es' s in
      let unjoined : length (es ++ rs) ≡ 0 → length rs' ≡ 0 = not-gained (es ++ rs) rs' j in
      let kept : 0 < length (es ++ rs) → 0 < length (es' ++ rs') = not-lost (es ++ rs) (es' ++ rs') e in
      let both = length-append es rs in
      let both' = length-append es' rs' in
      let same_seat : empty es ≡ empty es' =
      empty-same es es' unseated (λ h. omega (arith, kept (omega arith), seated-not-waiting X st a ok h)) in
      let same_place : empty rs ≡ empty rs' =
      empty-same rs rs'
      (λ z. by_test (ltb 0 (length es))
      (λ g. seated-not-waiting X st a ok (ltb-true 0 (length es) g))
      (λ g. unjoined (omega (arith, ltb-false 0 (length es) g))))
      (λ h. omega (arith, kept (omega arith), unseated (omega arith))) in
      let same_held : empty (es ++ rs) ≡ empty (es' ++ rs') =
      empty-same (es ++ rs) (es' ++ rs') (λ z. omega (arith, unseated (omega arith), unjoined z)) kept in
      record {
        seat = says.seat ∙ ap not same_seat;
        place = says.place ∙ ap not same_place;
        gone = says.gone ∙ (once_more (empty (es ++ rs)) was ∙ ap (λ b. b && (not (empty (es ++ rs)) || was)) same_held);
      }

  pub says : (all : List Moment) (st : Stage) (log : List Moment) → Ran st log → Says X st (was_held X log) (latest X all log)
  unfolding latest
  says all st log start = says_never all
  says all st log (then {st = st₀} {log = log₀} a r) =
      let v = at st₀ a in
      let st' = stage_after st₀ a in
      let ok = ran_sound r in
      let was = was_held X (v ∷ log₀) in
      let once = stage_once X st' (after-sound st₀ a ok) in
      by_latest X all (Says X st' was) v log₀
      (λ s.
      let has = (gained (seat_in X st₀) (seat_in X st') s).1 in
      says-seated st' was _ _ has (omega arith))
      (λ s j.
      let has = (gained (held_in X st₀) (place_in X st') j).1 in
      says-waiting st' was _ (omega arith) has)
      (λ e.
      let gone = lost (held_in X st₀) (held_in X st') e in
      says-removed st' was v log₀ (sym (length-append (seat_in X st') (place_in X st')) ∙ gone.1) (rw (empty-not (held_in X st₀) gone.0)))
      (λ s j e. says-still st₀ a ok (was_held X log₀) (latest X all log₀) s j e (says all st₀ log₀ r))

  -- ---- who was ever held is named

  pub unnamed-unheld : (st : Stage) (log : List Moment) → Ran st log → All (λ v. names X v ≡ false) log
      → (was_held X log ≡ false) × (length (seat_in X st) + length (place_in X st) ≡ 0)
  unnamed-unheld st log start none = (refl, refl)
  unnamed-unheld st log (then {st = st₀} {log = log₀} a r) none =
      let ok = ran_sound r in
      let before_it = unnamed-unheld st₀ log₀ r none.1 in
      let out : length (seat_in X st₀) + length (place_in X st₀) ≡ 0 = before_it.1 in
      let places = place_in X (stage_after st₀ a) in (
        rw (empty-is (held_in X st₀) (simp length-append out)) before_it.0,
        by_test (ltb 0 (length places))
            (λ h. clash (sym (joined-by-ping X st₀ a ok out (ltb-true 0 (length places) h)).0 ∙ none.0))
            (λ h. omega (arith, unheld-not-seated X st₀ a ok out, ltb-false 0 (length places) h)),
      )
