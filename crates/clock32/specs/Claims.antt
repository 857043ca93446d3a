-- What is claimed of a reading of 32 bits: d milliseconds after the table's clock the box's counter reads (clock + d) mod 2^32.
use Rattle.std.specs.Prelude.{◌≡◌, ℕ, ◌+◌, ◌%◌, ◌^◌, ◌<◌, ◌≤◌, Some, None}
use Rattle.node.specs.declared.MonotonicMillis.{MonotonicMillis}
use Rattle.clock32.specs.Widened.{widened}

-- at a table's clock of 64 bits
pub record WidenedAt (clock : ℕ) : Type 0 where
  -- below 24.8 days, 2^31 ms, the widened clock is the true one
  pub exact : (d : ℕ) → d < 2 ^ 31 → clock + d < 2 ^ 64 → widened clock ((clock + d) % 2 ^ 32) ≡ Some (record { 0 = clock + d })
  -- "After more than 24.8 days of silence a reading may be refused": it is, up to 49.7 days, 2^32 ms
  pub back_between : (d : ℕ) → 2 ^ 31 ≤ d → d < 2 ^ 32 → widened clock ((clock + d) % 2 ^ 32) ≡ None
  -- "or, past 49.7 days, taken too low"
  pub too_low : (d : ℕ) → d < 2 ^ 31 → clock + d < 2 ^ 64 → widened clock ((clock + (2 ^ 32 + d)) % 2 ^ 32) ≡ Some (record { 0 = clock + d })
  -- "a sum past 64 bits" is refused
  pub past_the_end : (d : ℕ) → d < 2 ^ 31 → 2 ^ 64 ≤ clock + d → widened clock ((clock + d) % 2 ^ 32) ≡ None
  -- a clock that is given never falls, and has 64 bits
  pub rises : (reading : ℕ) (t : MonotonicMillis) → widened clock reading ≡ Some t → (clock ≤ t.0) × (t.0 < 2 ^ 64)
  -- the same reading at the clock that it gave gives that clock again
  pub again : (reading : ℕ) (t : MonotonicMillis) → reading < 2 ^ 32 → widened clock reading ≡ Some t → widened t.0 reading ≡ Some t

abbrev pub WidenedExactly : Type 0
WidenedExactly = (clock : ℕ) → clock < 2 ^ 64 → WidenedAt clock
