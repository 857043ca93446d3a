-- What is claimed of the logarithmic distance.
use Rattle.std.specs.Prelude.{ℕ, ◌+◌, ◌≤◌, ◌≡◌, ◌↔◌, true, length}
use Rattle.octets.specs.Octets.{Bytes, IsBytes}
use Rattle.distance.specs.Distance.{distance, in_bucket, log_distance}

-- C-14: "0 for equal hashes and otherwise bucket number plus one, 1 to 256"
pub record IsLogDistance (a b : Bytes) : Type 0 where
  pub equal : (log_distance a b ≡ 0) ↔ (a ≡ b)
  pub number : (i : ℕ) → (log_distance a b ≡ i + 1) ↔ (in_bucket i (distance a b) ≡ true)
  pub most : log_distance a b ≤ 256

-- of every two hashes
abbrev pub LogDistance : Type 0
LogDistance = (a b : Bytes) → length a ≡ 32 → length b ≡ 32 → IsBytes a → IsBytes b → IsLogDistance a b
