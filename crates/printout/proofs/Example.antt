-- The printout of a sound table by its contents, and document 01's example of it. Assumes nothing.
use Prim.Native.Nat.{ℕ, ◌-◌}
use mathlib.Core.Path.{◌≡◌, refl, ◌∙◌}
use mathlib.Core.List.{List, [], ◌∷◌, ◌++◌}
use lib.ListN.{length}
use Rattle.octets.specs.Octets.{Bytes}
use Rattle.text.specs.Decimals.{digits, decimal}
use Rattle.text.specs.Rows.{row}
use Rattle.bucket_model.specs.Contents.{Contents}
use Rattle.table_model.specs.Layout.{encode_table}
use Rattle.table_model.specs.Facts.{SoundTable}
use Rattle.table_model.proofs.Sound.{count-back, clock-back, buckets-back}
use Rattle.printout_entry.specs.EntryRow.{entry_row}
use Rattle.printout.specs.TableRow.{table_word, entry_total, replacement_total, table_row}
use Rattle.printout.specs.Printout.{entry_rows, bucket_rows, buckets_rows, printout}
use Rattle.printout.specs.Claims.{example_buckets, first_row, second_row, Example}

abbrev pub printed : ℕ → List Contents → Bytes
printed clock buckets =
    row table_word (decimal (length buckets) ∷ decimal clock ∷ decimal (entry_total buckets) ∷ decimal (replacement_total buckets) ∷ [])
    ++ buckets_rows (257 - length buckets) buckets

pub printout_of : (own : Bytes) (clock : ℕ) (buckets : List Contents) → SoundTable own clock buckets
    → printout (encode_table own clock buckets) ≡ printed clock buckets
unfolding printout table_row
printout_of own clock buckets f = rw (count-back own clock buckets f, clock-back own clock buckets f, buckets-back own clock buckets f)

rows : (rest hash : Bytes) → printed 250 (example_buckets rest hash) ≡ first_row ++ second_row
unfolding digits decimal entry_row entry_rows bucket_rows buckets_rows entry_total replacement_total
rows rest hash = refl

pub example : Example
example rest hash own f = printout_of own 250 (example_buckets rest hash) f ∙ rows rest hash
