-- What writing a printout asks of a table's bytes.
use Rattle.std.specs.Prelude.{ℕ, ◌+◌, ◌*◌, ◌≤◌, length, get_or}
use Rattle.octets.specs.Octets.{Bytes}
use Rattle.lists.specs.Lists.{All}
use Rattle.printout_entry.specs.EntryRow.{HasAddress}
use Rattle.bucket_model.specs.Contents.{entries_at}
use Rattle.table_model.specs.Layout.{offset_of}

-- n entries from index at, each with an address
pub record EntriesIn (s : Bytes) (at n : ℕ) : Type 0 where
  pub few : n ≤ 16
  pub within : at + n * 143 ≤ length s
  pub addresses : All HasAddress (entries_at s at n)

-- the bucket in a slot, by its counts and its entries
pub record BucketIn (s : Bytes) (slot : ℕ) : Type 0 where
  pub within : offset_of (slot + 1) ≤ length s
  pub entries : EntriesIn s (offset_of slot + 2) (get_or s (offset_of slot) 0)
  pub few : get_or s (offset_of slot + 1) 0 ≤ 4
  pub replacements : EntriesIn s (offset_of slot + 2290) (get_or s (offset_of slot + 1) 0)
