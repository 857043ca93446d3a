-- The entries and the replacements of a table, counted bucket by bucket. Assumes nothing.
use mathlib.Core.Path.{◌≡◌, ap, ◌∙◌}
use mathlib.Core.Bool.{true}
use mathlib.Core.List.{[]}
use Prim.Native.Nat.{ℕ, ◌+◌, ◌≤◌, ◌<◌}
use native.Mathlib.Omega.{arith}
use lib.ListN.{length, get_or, drop, drop_of_length-le}
use Rattle.octets.specs.Octets.{Bytes}
use Rattle.bucket_model.specs.Contents.{Contents}
use Rattle.bucket_model.proofs.ByteForm.{length-entries_at}
use Rattle.table_model.specs.Layout.{count_of, offset_of, bucket_at, buckets_of}
use Rattle.table_model.specs.Sound.{table_sound}
use Rattle.table_model.proofs.Table.{count_read}
use Rattle.printout.specs.TableRow.{entry_total, replacement_total}
use Rattle.printout.proofs.HeadRows.{next-bucket}
use Rattle.printout.proofs.Slots.{bucket-is}

module _ (s : Bytes) where
  abbrev pub entries_from : ℕ → ℕ
  entries_from slot = entry_total (drop slot (buckets_of s))

  abbrev pub replacements_from : ℕ → ℕ
  replacements_from slot = replacement_total (drop slot (buckets_of s))

  none_left : (slot : ℕ) → count_of s ≤ slot → drop slot (buckets_of s) ≡ []
  none_left slot h = drop_of_length-le (buckets_of s) {i = slot} (omega (arith, count_read s))

  pub no_entries : (slot : ℕ) → count_of s ≤ slot → entries_from slot ≡ 0
  unfolding entry_total
  no_entries slot h = ap entry_total (none_left slot h)

  pub no-replacements : (slot : ℕ) → count_of s ≤ slot → replacements_from slot ≡ 0
  unfolding replacement_total
  no-replacements slot h = ap replacement_total (none_left slot h)

  module _ (h : table_sound s ≡ true) (slot : ℕ) (k : slot < count_of s) where
    pub next-entries : entries_from slot ≡ get_or s (offset_of slot) 0 + entries_from (slot + 1)
    unfolding entry_total
    next-entries =
        let size : length (bucket_at s slot).entries ≡ get_or s (offset_of slot) 0 =
        ap (λ (m : Contents). length m.entries) (bucket-is s h slot k) ∙ length-entries_at s (offset_of slot + 2) (get_or s (offset_of slot) 0) in
        ap entry_total (next-bucket s slot k) ∙ ap (λ (n : ℕ). n + entries_from (slot + 1)) size

    pub next-replacements : replacements_from slot ≡ get_or s (offset_of slot + 1) 0 + replacements_from (slot + 1)
    unfolding replacement_total
    next-replacements =
        let size : length (bucket_at s slot).replacements ≡ get_or s (offset_of slot + 1) 0 =
        ap (λ (m : Contents). length m.replacements) (bucket-is s h slot k) ∙ length-entries_at s (offset_of slot + 2290) (get_or s (offset_of slot + 1) 0) in
        ap replacement_total (next-bucket s slot k) ∙ ap (λ (n : ℕ). n + replacements_from (slot + 1)) size
