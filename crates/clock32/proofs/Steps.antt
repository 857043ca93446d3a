-- What a reading gives, by the step between the clock's low 32 bits and the reading.
use Rattle.std.proofs.Common.{◌≡◌, ℕ, ◌+◌, ◌-◌, ◌%◌, ◌^◌, ◌<◌, ◌≤◌, refl, arith, le-ltb, lt-ltb, Some, None}
use Rattle.clock32.specs.Widened.{step_of, widened}

-- r is the step from the clock to the reading a
pub record StepIs (r clock a : ℕ) : Type 0 where
  pub fits : r < 2 ^ 32
  pub small : a < 2 ^ 32
  pub wraps : (r + clock % 2 ^ 32) % 2 ^ 32 ≡ a

step_is : (r clock a : ℕ) → StepIs r clock a → step_of clock a ≡ r
unfolding step_of
step_is r clock a h = omega (arith, h.fits, h.small, h.wraps)

-- the step as it is worked out
pub stepped : (clock a : ℕ) → a < 2 ^ 32 → StepIs ((a + (2 ^ 32 - clock % 2 ^ 32)) % 2 ^ 32) clock a
stepped clock a h = record { fits = omega arith; small = h; wraps = omega arith }

module _ (r clock a : ℕ) (is : StepIs r clock a) where
  pub too_far : 2 ^ 31 ≤ r → None ≡ widened clock a
  unfolding widened
  too_far h = rw (step_is r clock a is, le-ltb r (2 ^ 31) h) refl

  pub beyond : r < 2 ^ 31 → 2 ^ 64 ≤ clock + r → None ≡ widened clock a
  unfolding widened
  beyond h g = rw (step_is r clock a is, lt-ltb r (2 ^ 31) h, le-ltb (clock + r) (2 ^ 64) g) refl

  pub in_reach : r < 2 ^ 31 → clock + r < 2 ^ 64 → Some (record { 0 = clock + r }) ≡ widened clock a
  unfolding widened
  in_reach h g = rw (step_is r clock a is, lt-ltb r (2 ^ 31) h, lt-ltb (clock + r) (2 ^ 64) g) refl
