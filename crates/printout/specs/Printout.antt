-- The printout of a table. Document 01, "Log and printout": "buckets rising, in each the seats from the head, then its `wait` lines, places
-- counted from 1". "Fields: buckets, clock, seats, waiting; then .." those of an entry's row.
use Rattle.std.specs.Prelude.{ℕ, suc, ◌+◌, ◌-◌, ◌*◌, List, [], ◌∷◌, ◌++◌}
use Rattle.octets.specs.Octets.{Bytes}
use Rattle.printout_rows.specs.Rows.{entry_word, replacement_word}
use Rattle.printout_entry.specs.EntryRow.{entry_row}
use Rattle.entry.specs.declared.Entry.{Entry}
use Rattle.bucket_model.specs.Contents.{Contents}
use Rattle.table_model.specs.Layout.{count_of, buckets_of}
use Rattle.printout.specs.TableRow.{table_row}

-- ---- the buckets

-- entries one after the other, the first of them in this place
unfoldable pub entry_rows : Bytes → ℕ → ℕ → List Entry → Bytes
entry_rows word distance place [] = []
entry_rows word distance place (e ∷ es) = entry_row word distance place e ++ entry_rows word distance (suc place) es

-- "the seats from the head, then its `wait` lines, places counted from 1"
unfoldable pub bucket_rows : ℕ → Contents → Bytes
bucket_rows distance b = entry_rows entry_word distance 1 b.entries ++ entry_rows replacement_word distance 1 b.replacements

-- "buckets rising", the first of them at this logarithmic distance
unfoldable pub buckets_rows : ℕ → List Contents → Bytes
buckets_rows distance [] = []
buckets_rows distance (b ∷ bs) = bucket_rows distance b ++ buckets_rows (suc distance) bs

-- ---- the table

-- the printout of the table with the bytes s
unfoldable pub printout : Bytes → Bytes
printout s = table_row s ++ buckets_rows (257 - count_of s) (buckets_of s)

-- room for the printout of a table of so many buckets, whatever it holds: its own row takes at most 41 bytes, and the row of each of 20 entries
-- of a bucket at most 137
abbrev pub printout_room : ℕ → ℕ
printout_room buckets = 41 + buckets * 20 * 137
