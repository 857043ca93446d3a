-- When the widened clock is the true one, and when a reading is refused.
use Rattle.std.proofs.Common.{◌≡◌, ℕ, ◌+◌, ◌%◌, ◌^◌, ◌<◌, Bool, true, false, ◌&&◌, ltb, sym, refl, ap, ◌∙◌, arith, ltb-true, cond, Some, None}
use Rattle.lists.proofs.Laws.{and_right}
use Rattle.node.specs.declared.MonotonicMillis.{MonotonicMillis}
use Rattle.clock32.specs.Widened.{step_of, widened}
use Rattle.clock32.specs.Claims.{WidenedAt, WidenedExactly}
use Rattle.clock32.proofs.Steps.{StepIs, too_far, beyond, in_reach}

-- a clock that was given: the test held, and the clock is the one of the test
taken : (b : Bool) (u t : MonotonicMillis) → cond b (Some u) None ≡ Some t → (b ≡ true) × (u ≡ t)
taken true u t h = (refl, cc)
taken false u t h = let z : ◌≡◌ {A = ℕ} 0 1 = cc in absurd (omega arith)

module _ (clock : ℕ) where
  -- the reading n milliseconds after the clock is d ahead of it, whole rounds aside
  ahead : (d n : ℕ) → d < 2 ^ 32 → n % 2 ^ 32 ≡ d → StepIs d clock ((clock + n) % 2 ^ 32)
  ahead d n h e = record { fits = h; small = omega arith; wraps = omega arith }

  exactly : (d n : ℕ) → d < 2 ^ 31 → n % 2 ^ 32 ≡ d → clock + d < 2 ^ 64 → widened clock ((clock + n) % 2 ^ 32) ≡ Some (record { 0 = clock + d })
  exactly d n h e fits = sym (in_reach d clock ((clock + n) % 2 ^ 32) (ahead d n (omega arith) e) h fits)

  abbrev sum : ℕ → ℕ
  sum reading = clock + step_of clock reading

  -- the clock that a reading gave is the sum, and fits
  gave : (reading : ℕ) (t : MonotonicMillis) → widened clock reading ≡ Some t → (sum reading < 2 ^ 64) × (record { 0 = sum reading } ≡ t)
  unfolding widened
  gave reading t h =
      let near : Bool = ltb (step_of clock reading) (2 ^ 31) in
      let fits : Bool = ltb (sum reading) (2 ^ 64) in
      let both : ((near && fits) ≡ true) × (record { 0 = sum reading } ≡ t) = taken (near && fits) (record { 0 = sum reading }) t h in
      (ltb-true (sum reading) (2 ^ 64) (and_right near fits both.0), both.1)

  -- its low 32 bits are the reading
  low_sum : (reading : ℕ) → reading < 2 ^ 32 → sum reading % 2 ^ 32 ≡ reading
  unfolding step_of
  low_sum reading h = omega arith

  same-again : (reading : ℕ) → reading < 2 ^ 32 → sum reading < 2 ^ 64 → widened (sum reading) reading ≡ Some (record { 0 = sum reading })
  same-again reading small fits =
      sym (in_reach 0 (sum reading) reading (record { fits = omega arith; small = small; wraps = omega (arith, low_sum reading small) })
      (omega arith) (omega arith))
      ∙ ap (λ (n : ℕ). Some (record { 0 = n })) (omega arith)

  pub widens : WidenedAt clock
  widens =
      record {
        exact = λ d h fits. exactly d d h (omega arith) fits;
        back_between = λ d h g. sym (too_far d clock ((clock + d) % 2 ^ 32) (ahead d d g (omega arith)) h);
        too_low = λ d h fits. exactly d (2 ^ 32 + d) h (omega arith) fits;
        past_the_end = λ d h g. sym (beyond d clock ((clock + d) % 2 ^ 32) (ahead d d (omega arith) (omega arith)) h g);
        rises = λ reading t h.
            let sum_is : (sum reading < 2 ^ 64) × (record { 0 = sum reading } ≡ t) = gave reading t h in
            rw (← sum_is.1) (omega arith, sum_is.0);
        again = λ reading t small h.
            let sum_is : (sum reading < 2 ^ 64) × (record { 0 = sum reading } ≡ t) = gave reading t h in
            rw (← sum_is.1) (same-again reading small sum_is.0);
      }

pub widened_exactly : WidenedExactly
widened_exactly clock h = widens clock
