-- When a table's bytes are sound (document 01, "Sound means exactly").
use Rattle.std.specs.Prelude.{ℕ, zero, suc, Bool, true, ◌&&◌}
use Rattle.octets.specs.Octets.{Bytes}
use Rattle.distance.specs.Distance.{home}
use Rattle.bucket_model.specs.Sound.{sound}
use Rattle.table_model.specs.Layout.{own_of, clock_of, count_of, number_at, bucket_bytes, header_sound}

-- a test passes at each number below n
unfoldable pub all_below : ℕ → (ℕ → Bool) → Bool
all_below zero q = true
all_below (suc n) q = all_below n q && q n

-- the own-bucket rule left out: every key is at home
abbrev pub anywhere : Bytes → Bool
anywhere key = true

-- the bucket in a slot is sound
abbrev pub bucket_sound : Bytes → ℕ → Bool
bucket_sound s slot = sound (home (own_of s) (number_at (count_of s) slot)) (clock_of s) (bucket_bytes s slot)

unfoldable pub buckets_sound : Bytes → Bool
buckets_sound s = all_below (count_of s) (bucket_sound s)

unfoldable pub table_sound : Bytes → Bool
table_sound s = header_sound s && buckets_sound s
