-- What is carried from line to line tells the reason that the run gives. Assumes nothing.
use Prim.Native.Nat.{ℕ, suc}
use mathlib.Core.Path.{◌≡◌, refl, ap, ap₂, ◌∙◌}
use mathlib.Core.Bool.{Bool, true, false, cond, ◌||◌}
use mathlib.Core.List.{List, [], ◌∷◌}
use lib.ListN.{length}
use Rattle.octets.specs.Octets.{Bytes}
use Rattle.lists.specs.Lists.{any}
use Rattle.lists.proofs.Laws.{by_test}
use Rattle.log_history.specs.declared.Reason.{Reason}
use Rattle.log_history.specs.declared.Reason.TheVariants.{Seated, Waiting, Ping, Proof, Never, Unnamed}
use Rattle.log_history.specs.declared.Standing.{Standing}
use Rattle.log_history.specs.declared.Standing.TheVariants.{NotYet, SeatedAt, WaitingSince, PingLost, ProofLost}
use Rattle.log_history.specs.Past.{number_at, Moment}
use Rattle.log_history.specs.Why.{seats, joins, removes, tails, names, pings, overdue_at, last_line, last_number, not_held, latest}
use Rattle.log_history.specs.Claims.{TrailTells}
use Rattle.log_history.specs.Trail.{trail_after, trail_of, reason_for}

module _ (X : Bytes) where
  lines_are : (log : List Moment) → (trail_of X log).lines ≡ length log
  unfolding trail_of trail_after
  lines_are [] = refl
  lines_are (v ∷ log) = ap suc (lines_are log)

  tail-is : (log : List Moment) → (trail_of X log).tail ≡ last_line (tails X) log
  unfolding trail_of trail_after
  tail-is [] = refl
  tail-is (v ∷ log) = ap₂ (λ n m. cond (tails X v) (suc n) m) (lines_are log) (tail-is log)

  pinged-is : (log : List Moment) → (trail_of X log).pinged ≡ last_line (pings X) log
  unfolding trail_of trail_after
  pinged-is [] = refl
  pinged-is (v ∷ log) = ap₂ (λ n m. cond (pings X v) (suc n) m) (lines_are log) (pinged-is log)

  named-is : (log : List Moment) → (trail_of X log).named ≡ any (names X) log
  unfolding trail_of trail_after
  named-is [] = refl
  named-is (v ∷ log) = ap (λ b. names X v || b) (named-is log)

  number_is : (log : List Moment) → (trail_of X log).number ≡ last_number X log
  unfolding trail_of trail_after
  number_is [] = refl
  number_is (v ∷ log) = ap (cond (names X v) (number_at v.given v.asks)) (number_is log)

  -- the reason by a standing, where the whole log's lines are `all`
  abbrev by : List Moment → Standing → Reason
  by all NotYet = not_held X all
  by all (SeatedAt n) = Seated n (last_line (tails X) all)
  by all (WaitingSince n) = Waiting n
  by all (PingLost n m) = Ping n m
  by all (ProofLost n) = Proof n

  by-removed : (all : List Moment) (b : Bool) (n m : ℕ) → by all (cond b (PingLost n m) (ProofLost n)) ≡ cond b (Ping n m) (Proof n)
  by-removed all true n m = refl
  by-removed all false n m = refl

  standing-tells : (all log : List Moment) → by all (trail_of X log).standing ≡ latest X all log
  unfolding trail_of trail_after latest
  standing-tells all [] = refl
  standing-tells all (v ∷ log) =
      by_test (seats X v)
      (λ e. rw e (ap (λ n. Seated (suc n) (last_line (tails X) all)) (lines_are log)))
      (λ e. rw e (by_test (joins X v)
      (λ f. rw f (ap (λ n. Waiting (suc n)) (lines_are log)))
      (λ f. rw f (by_test (removes X v)
      (λ g. rw g (by-removed all (overdue_at X v.given v.asks) (suc (trail_of X log).lines) (trail_of X log).pinged
      ∙ ap₂ (λ n m. cond (overdue_at X v.given v.asks) (Ping (suc n) m) (Proof (suc n))) (lines_are log) (pinged-is log)))
      (λ g. rw g (standing-tells all log))))))

  by_all : (log : List Moment) (s : Standing) → reason_for (trail_of X log) s ≡ by log s
  by_all log NotYet = ap₂ (λ b a. cond b (Never a) Unnamed) (named-is log) (number_is log)
  by_all log (SeatedAt n) = ap (Seated n) (tail-is log)
  by_all log (WaitingSince n) = refl
  by_all log (PingLost n m) = refl
  by_all log (ProofLost n) = refl

-- the value that is carried tells the reason
pub trail_tells : TrailTells
trail_tells X p = by_all X p.lines (trail_of X p.lines).standing ∙ standing-tells X p.lines p.lines
