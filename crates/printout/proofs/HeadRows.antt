-- The row of the table by its parts, and the buckets that it counts one after the other. Assumes nothing.
use mathlib.Core.Path.{◌≡◌, ◌∙◌}
use mathlib.Core.List.{[], ◌∷◌}
use Prim.Native.Nat.{ℕ, ◌+◌, ◌<◌}
use native.Mathlib.Numerals.{add-one}
use native.Mathlib.Omega.{arith}
use lib.ListN.{drop}
use lib.Seq.{drop-cons}
use Rattle.octets.specs.Octets.{Bytes}
use Rattle.bucket_model.specs.Contents.{no_contents}
use Rattle.table_model.specs.Layout.{clock_of, count_of, bucket_at, buckets_of}
use Rattle.table_model.proofs.Table.{count_read, bucket_read}
use Rattle.octets.proofs.Progress.{concat}
use Rattle.text.specs.Decimals.{decimal}
use Rattle.printout_rows.proofs.Rows.{pieces, pieces_are}
use Rattle.printout.specs.TableRow.{table_word, entry_total, replacement_total, table_row}

-- ---- the row of the table

pub head_parts : (s : Bytes) {count clock entries replacements : ℕ}
    → count ≡ count_of s → clock ≡ clock_of s → entries ≡ entry_total (buckets_of s) → replacements ≡ replacement_total (buckets_of s)
    → concat (pieces table_word (decimal count ∷ decimal clock ∷ decimal entries ∷ decimal replacements ∷ [])) ≡ table_row s
unfolding table_row
head_parts s {count} {clock} {entries} {replacements} e₁ e₂ e₃ e₄ =
    pieces_are table_word (decimal count ∷ decimal clock ∷ decimal entries ∷ decimal replacements ∷ []) ∙ rw (e₁, e₂, e₃, e₄)

-- ---- the buckets

module _ (s : Bytes) where
  pub next-bucket : (slot : ℕ) → slot < count_of s → drop slot (buckets_of s) ≡ bucket_at s slot ∷ drop (slot + 1) (buckets_of s)
  next-bucket slot h = rw (add-one, ← bucket_read s slot h) (drop-cons (buckets_of s) slot no_contents (omega (arith, count_read s)))
