-- The row of a table in its printout. Document 01, "Log and printout": "Fields: buckets, clock, seats, waiting".
use Rattle.std.specs.Prelude.{ℕ, ◌+◌, List, [], ◌∷◌, length}
use Rattle.octets.specs.Octets.{Bytes}
use Rattle.text.specs.Decimals.{decimal}
use Rattle.text.specs.Rows.{row}
use Rattle.bucket_model.specs.Contents.{Contents}
use Rattle.table_model.specs.Layout.{clock_of, count_of, buckets_of}

-- `table`
abbrev pub table_word : Bytes
table_word = 0x74 ∷ 0x61 ∷ 0x62 ∷ 0x6c ∷ 0x65 ∷ []

-- all entries (document 01's "seats")
unfoldable pub entry_total : List Contents → ℕ
entry_total [] = 0
entry_total (b ∷ bs) = length b.entries + entry_total bs

-- all replacements (document 01's "waiting")
unfoldable pub replacement_total : List Contents → ℕ
replacement_total [] = 0
replacement_total (b ∷ bs) = length b.replacements + replacement_total bs

-- "buckets, clock, seats, waiting"
unfoldable pub table_row : Bytes → Bytes
table_row s =
    row table_word (decimal (count_of s)
    ∷ decimal (clock_of s)
    ∷ decimal (entry_total (buckets_of s))
    ∷ decimal (replacement_total (buckets_of s))
    ∷ [])
