-- Both sides of each line: P9 and P10 of document 01, at every time, and the figures of ranges.
use Prim.Native.Nat.{ℕ, ◌+◌, ◌-◌}
use mathlib.Core.Path.{◌≡◌, refl}
use mathlib.Core.Bool.{true, false}
use native.Mathlib.Omega.{arith}
use borrow.Author.Tests.{le-leb, lt-leb, lt-ltb, le-ltb}
use Rattle.octets.specs.Octets.{part, same_bytes}
use Rattle.entry.specs.declared.EndpointProof.TheVariants.{At}
use Rattle.entry.specs.declared.PingState.TheVariants.{Out}
use Rattle.bucket_model.specs.Rules.{millis, ping_timeout, proof_lifetime, proof_holds, proof_expired, is_overdue, range_count, may_take}
use Rattle.bucket_model.specs.Claims.{RangeFigures}

module _ (t : ℕ) where
  -- a proof of 43,200,000 ms ago holds, and a sweep keeps it
  pub proof-holds : proof_holds (t + 43200000) (At (millis t)) ≡ true
  proof-holds = le-leb (t + 43200000 - t) proof_lifetime (omega arith)

  pub proof-kept : proof_expired (t + 43200000) (At (millis t)) ≡ false
  proof-kept = le-ltb proof_lifetime (t + 43200000 - t) (omega arith)

  -- one of 43,200,001 ms ago does not, and is dropped
  pub proof-fails : proof_holds (t + 43200001) (At (millis t)) ≡ false
  proof-fails = lt-leb (t + 43200001 - t) proof_lifetime (omega arith)

  pub proof-dropped : proof_expired (t + 43200001) (At (millis t)) ≡ true
  proof-dropped = lt-ltb proof_lifetime (t + 43200001 - t) (omega arith)

  -- a ping of 500 ms ago is not overdue, one of 501 ms ago is
  pub ping-in-time : is_overdue (t + 500) (Out (millis t)) ≡ false
  ping-in-time = le-ltb ping_timeout (t + 500 - t) (omega arith)

  pub ping-overdue : is_overdue (t + 501) (Out (millis t)) ≡ true
  ping-overdue = lt-ltb ping_timeout (t + 501 - t) (omega arith)

-- ---- ranges (C-16)

pub range_figures : RangeFigures
unfolding may_take range_count part same_bytes
range_figures =
    record { same_three = refl; other_third = refl; sixteen = refl; beside_one = refl; beside_two = refl; of_another = refl }
