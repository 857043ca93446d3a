-- The trail after a line, by its cases. Assumes nothing.
use Prim.Native.Nat.{ℕ, ◌+◌}
use mathlib.Core.Path.{◌≡◌, refl}
use mathlib.Core.Bool.{Bool, true, false, cond, ◌||◌}
use native.Mathlib.Numerals.{add-one}
use Rattle.bucket_lookup.specs.declared.Lookup.{Lookup}
use Rattle.log_history.specs.declared.Standing.{Standing}
use Rattle.log_history.specs.declared.Standing.TheVariants.{SeatedAt, WaitingSince, PingLost, ProofLost}
use Rattle.log_history.specs.declared.Trail.{Trail}
use Rattle.log_acts.specs.declared.Acted.{Acted}
use Rattle.log_why.specs.Steps.{seats_by, joins_by, removes_by, standing_by, trail_by}

module _ (t : Trail) (a : Acted) (l l' : Lookup) where
  pub by-seat : seats_by l l' ≡ true → SeatedAt (t.lines + 1) ≡ standing_by t a l l'
  unfolding standing_by
  by-seat s = rw (s, add-one) refl

  pub by-joining : seats_by l l' ≡ false → joins_by l l' ≡ true → WaitingSince (t.lines + 1) ≡ standing_by t a l l'
  unfolding standing_by
  by-joining s j = rw (s, j, add-one) refl

  pub by-staying : seats_by l l' ≡ false → joins_by l l' ≡ false → removes_by l l' ≡ false → t.standing ≡ standing_by t a l l'
  unfolding standing_by
  by-staying s j r = rw (s, j, r) refl

  pub by-ping : seats_by l l' ≡ false → joins_by l l' ≡ false → removes_by l l' ≡ true → a.overdue ≡ true
      → PingLost (t.lines + 1) t.pinged ≡ standing_by t a l l'
  unfolding standing_by
  by-ping s j r o = rw (s, j, r, o, add-one) refl

  pub by-proof : seats_by l l' ≡ false → joins_by l l' ≡ false → removes_by l l' ≡ true → a.overdue ≡ false
      → ProofLost (t.lines + 1) ≡ standing_by t a l l'
  unfolding standing_by
  by-proof s j r o = rw (s, j, r, o, add-one) refl

  pub trail_is : {s : Standing} {tail pinged number : ℕ} {named : Bool} → s ≡ standing_by t a l l'
      → tail ≡ cond (seats_by l l' || a.moves) (t.lines + 1) t.tail → pinged ≡ cond a.pings (t.lines + 1) t.pinged
      → named ≡ (a.named || t.named) → number ≡ cond a.named a.number t.number
      → ◌≡◌ {A = Trail} (record { lines = t.lines + 1; standing = s; tail = tail; pinged = pinged; named = named; number = number }) (trail_by t a l l')
  unfolding trail_by
  trail_is hs ht hp hn hk = rw (hs, ht, hp, hn, hk, add-one) refl
