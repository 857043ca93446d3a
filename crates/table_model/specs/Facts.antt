-- A sound table by its contents, as facts.
use Rattle.std.specs.Prelude.{ℕ, ◌^◌, ◌≤◌, ◌<◌, ◌≡◌, Bool, List, length, get_or}
use Rattle.octets.specs.Octets.{Bytes}
use Rattle.entry.specs.Values.{IsEntry}
use Rattle.distance.specs.Distance.{home}
use Rattle.bucket_model.specs.Contents.{Contents, no_contents}
use Rattle.bucket_model.specs.Facts.{Every, BucketSound}
use Rattle.table_model.specs.Layout.{number_at}

-- sound contents, of values that have a byte form
pub record SoundBucket (home : Bytes → Bool) (clock : ℕ) (m : Contents) : Type 0 where
  pub rules : BucketSound home clock m
  pub values : Every IsEntry m

-- the own hash, the clock, 1 to 256 buckets, and each of them sound under its number
pub record SoundTable (own : Bytes) (clock : ℕ) (buckets : List Contents) : Type 0 where
  pub own_size : length own ≡ 32
  pub clock_fits : clock < 2 ^ 64
  pub one : 1 ≤ length buckets
  pub most : length buckets ≤ 256
  pub each : (j : ℕ) → j < length buckets → SoundBucket (home own (number_at (length buckets) j)) clock (get_or buckets j no_contents)
