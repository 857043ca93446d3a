-- What is claimed of a table's bytes: they are sound exactly if they are the byte form of a sound table, and each table has one.
use Rattle.std.specs.Prelude.{ℕ, ◌≤◌, ◌≡◌, true, List, length, replicate}
use Rattle.octets.specs.Octets.{Bytes, IsBytes}
use Rattle.bucket_model.specs.Contents.{Contents, no_contents}
use Rattle.table_model.specs.Layout.{encode_table, own_of, clock_of, buckets_of}
use Rattle.table_model.specs.Sound.{table_sound}
use Rattle.table_model.specs.Facts.{SoundTable}

-- "Sound means exactly": what sound bytes hold is a sound table,
abbrev pub SoundIsTable : Type 0
SoundIsTable = (s : Bytes) → IsBytes s → table_sound s ≡ true → SoundTable (own_of s) (clock_of s) (buckets_of s)

-- they are its byte form,
abbrev pub TableOfSound : Type 0
TableOfSound = (s : Bytes) → IsBytes s → table_sound s ≡ true → encode_table (own_of s) (clock_of s) (buckets_of s) ≡ s

-- and the byte form of a sound table is sound
abbrev pub FormIsSound : Type 0
FormIsSound =
    (own : Bytes) (clock : ℕ) (buckets : List Contents) → SoundTable own clock buckets → table_sound (encode_table own clock buckets) ≡ true

-- "one byte form for each table": sound tables with the same bytes are the same
abbrev pub FormInjective : Type 0
FormInjective =
    (own own' : Bytes) (clock clock' : ℕ) (buckets buckets' : List Contents)
    → SoundTable own clock buckets → SoundTable own' clock' buckets' → encode_table own clock buckets ≡ encode_table own' clock' buckets'
    → (own ≡ own') × ((clock ≡ clock') × (buckets ≡ buckets'))

-- "A fresh table is sound for every own key and every B"; "Fresh: clock 0, nothing held"
abbrev pub FreshForm : Type 0
FreshForm = (own : Bytes) (count : ℕ) → length own ≡ 32 → 1 ≤ count → count ≤ 256 → SoundTable own 0 (replicate count no_contents)
