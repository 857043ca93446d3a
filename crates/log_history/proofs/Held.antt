-- Where a node stands before and after a line, by counts: it doesn't go from a seat into a line, is held only after a line that names it, and is
-- removed only by a sweep. Assumes nothing.
use Prim.Native.Nat.{ℕ, ◌+◌, ◌<◌}
use mathlib.Core.Path.{◌≡◌, refl, sym}
use mathlib.Core.Bool.{true, false, not, ◌&&◌}
use mathlib.Core.List.{List, [], ◌∷◌}
use native.Mathlib.Omega.{arith}
use lib.ListN.{length, length-append, length-map}
use Rattle.octets.specs.Octets.{Bytes}
use Rattle.lists.specs.Lists.{select, empty}
use Rattle.lists.proofs.Laws.{never, length-select}
use Rattle.bucket_model.specs.Rules.{stays_entry, stays_replacement}
use Rattle.log_history.specs.Past.{Asked, Stage, stage_after}
use Rattle.log_history.specs.Why.{seat_in, place_in, names, SweepAt, PingAt}
use Rattle.log_history.proofs.Step.{SoundStage, stage_once, at, by_line}

module _ {A : Type 0} where
  pub is-empty : (l : List A) → empty l ≡ true → length l ≡ 0
  is-empty [] h = refl
  is-empty (a ∷ l) h = never (sym h)

  pub not_empty : (l : List A) → empty l ≡ false → 0 < length l
  not_empty [] h = never h
  not_empty (a ∷ l) h = omega arith

  pub empty-is : (l : List A) → length l ≡ 0 → empty l ≡ true
  empty-is [] h = refl
  empty-is (a ∷ l) h = absurd (omega arith)

  pub empty-not : (l : List A) → 0 < length l → empty l ≡ false
  empty-not [] h = absurd (omega arith)
  empty-not (a ∷ l) h = refl

  pub empty-same : (l m : List A) → (length l ≡ 0 → length m ≡ 0) → (0 < length l → 0 < length m) → empty l ≡ empty m
  empty-same [] m f g = sym (empty-is m (f refl))
  empty-same (a ∷ l) m f g = sym (empty-not m (g (omega arith)))

  -- the tests of what a line does, by counts
  pub gained : (l m : List A) → (empty l && not (empty m)) ≡ true → (length l ≡ 0) × (0 < length m)
  gained [] [] h = never (sym h)
  gained [] (b ∷ m) h = (refl, omega arith)
  gained (a ∷ l) m h = never (sym h)

  pub not-gained : (l m : List A) → (empty l && not (empty m)) ≡ false → length l ≡ 0 → length m ≡ 0
  not-gained [] [] h z = refl
  not-gained [] (b ∷ m) h z = never h
  not-gained (a ∷ l) m h z = absurd (omega arith)

  pub lost : (l m : List A) → (not (empty l) && empty m) ≡ true → (0 < length l) × (length m ≡ 0)
  lost [] m h = never (sym h)
  lost (a ∷ l) [] h = (omega arith, refl)
  lost (a ∷ l) (b ∷ m) h = never (sym h)

  pub not-lost : (l m : List A) → (not (empty l) && empty m) ≡ false → 0 < length l → 0 < length m
  not-lost [] m h p = absurd (omega arith)
  not-lost (a ∷ l) [] h p = never h
  not-lost (a ∷ l) (b ∷ m) h p = omega arith

module _ (X : Bytes) (st : Stage) (a : Asked) (ok : SoundStage st) where
  -- a node with an entry isn't put in line
  pub seated-not-waiting : 0 < length (seat_in X st) → length (place_in X (stage_after st a)) ≡ 0
  seated-not-waiting has =
      let once = stage_once X st ok in
      by_line X (λ es rs. length rs ≡ 0) st a ok
      (record {
        stays = λ f _. simp length-map (omega arith);
        takes = λ f _. refl;
        joins = λ p t none _ _ _. absurd (omega arith);
        swept = λ t up line _ _ count _. omega (arith, length-select (stays_replacement t) (place_in X st));
      })

  -- who isn't held is not seated by the line, and put in line only by a ping to it
  pub unheld-not-seated : length (seat_in X st) + length (place_in X st) ≡ 0 → length (seat_in X (stage_after st a)) ≡ 0
  unheld-not-seated none =
      by_line X (λ es rs. length es ≡ 0) st a ok
      (record {
        stays = λ f _. simp length-map (omega arith);
        takes = λ f _. simp (length-append, length-map) (omega arith);
        joins = λ p t _ _ _ _. refl;
        swept = λ t up line _ _ count _.
            simp length-append
            (omega (arith, length-select (stays_entry t) (seat_in X st), length-select (stays_replacement t) (place_in X st)));
      })

  pub joined-by-ping : length (seat_in X st) + length (place_in X st) ≡ 0 → 0 < length (place_in X (stage_after st a))
      → (names X (at st a) ≡ true) × ((t : ℕ) × PingAt X t (at st a))
  joined-by-ping none =
      by_line X (λ es rs. 0 < length rs → (names X (at st a) ≡ true) × ((t : ℕ) × PingAt X t (at st a))) st a ok
      (record {
        stays = λ f _. simp length-map (λ has. absurd (omega arith));
        takes = λ f _ has. absurd (omega arith);
        joins = λ p t _ named is _ _. (named, (t, is));
        swept = λ t up line _ _ count _ has. absurd (omega (arith, length-select (stays_replacement t) (place_in X st)));
      })

  -- what removes a node is a sweep that keeps none of it
  pub removed-by-sweep : 0 < length (seat_in X st) + length (place_in X st)
      → length (seat_in X (stage_after st a)) + length (place_in X (stage_after st a)) ≡ 0
      → (t : ℕ) × SweepAt t (at st a)
      × (length (select (stays_entry t) (seat_in X st)) ≡ 0)
      × (length (select (stays_replacement t) (place_in X st)) ≡ 0)
  removed-by-sweep held =
      by_line X
      (λ es rs. length es + length rs ≡ 0
      → (t : ℕ) × SweepAt t (at st a)
      × (length (select (stays_entry t) (seat_in X st)) ≡ 0)
      × (length (select (stays_replacement t) (place_in X st)) ≡ 0)) st a ok
      (record {
        stays = λ f _. simp length-map (λ gone. absurd (omega arith));
        takes = λ f _. simp (length-append, length-map) (λ gone. absurd (omega arith));
        joins = λ p t none _ _ _ _. absurd (omega arith);
        swept = λ t up line is _ count _. simp length-append (λ gone. (t, is, omega arith, omega arith));
      })
