-- How long the rows of a sound table get. Assumes nothing.
use mathlib.Core.Path.{◌≡◌}
use mathlib.Core.Bool.{true}
use mathlib.Core.List.{List, [], ◌∷◌}
use Prim.Native.Nat.{ℕ, suc, ◌+◌, ◌-◌, ◌*◌, ◌≤◌, ◌<◌}
use native.Mathlib.Omega.{arith}
use lib.ListN.{length, get_or, length-append}
use Rattle.octets.specs.Octets.{Bytes, IsBytes}
use Rattle.lists.specs.Lists.{All}
use Rattle.lists.proofs.Laws.{at-All}
use Rattle.text.specs.Decimals.{decimal}
use Rattle.text.proofs.Decimals.{length_below, length_bound}
use Rattle.printout_rows.specs.Rows.{entry_word, replacement_word}
use Rattle.printout_rows.proofs.Rows.{length-row}
use Rattle.printout_entry.specs.EntryRow.{entry_row}
use Rattle.printout_entry.proofs.Rows.{entry_bound}
use Rattle.distance.specs.Distance.{home}
use Rattle.entry.specs.declared.Entry.{Entry}
use Rattle.entry.specs.Values.{IsEntry}
use Rattle.bucket_model.specs.Contents.{Contents, no_contents}
use Rattle.bucket_model.specs.Facts.{IsContents}
use Rattle.bucket_model.proofs.Values.{sound-contents}
use Rattle.table_model.specs.Layout.{own_of, clock_of, count_of, number_at, buckets_of}
use Rattle.table_model.specs.Sound.{table_sound}
use Rattle.table_model.proofs.Sound.{sound_is_table}
use Rattle.table_model.proofs.Table.{count_read}
use Rattle.printout.specs.TableRow.{table_word, entry_total, replacement_total, table_row}
use Rattle.printout.specs.Printout.{entry_rows, bucket_rows, buckets_rows, printout}
use Rattle.printout.specs.Claims.{PrintoutFits}
use Rattle.printout.proofs.Slots.{at-most}

entries_bound : (word : Bytes) (distance place : ℕ) (es : List Entry) → length word ≤ 4 → distance < 1000 → place + length es ≤ 100 → All IsEntry es
    → length (entry_rows word distance place es) ≤ length es * 137
unfolding entry_rows
entries_bound word distance place [] hw hn hp is = omega arith
entries_bound word distance place (e ∷ es) hw hn hp is =
    omega (
      arith,
      length-append (entry_row word distance place e) (entry_rows word distance (suc place) es),
      entry_bound word distance place e hw hn (omega arith) is.0,
      entries_bound word distance (suc place) es hw hn (omega arith) is.1,
    )

bucket_bound : (distance : ℕ) (m : Contents) → distance < 1000 → IsContents m → length (bucket_rows distance m) ≤ 20 * 137
unfolding bucket_rows
bucket_bound distance m hn is =
    omega (
      arith,
      length-append (entry_rows entry_word distance 1 m.entries) (entry_rows replacement_word distance 1 m.replacements),
      is.most,
      is.most_waiting,
      entries_bound entry_word distance 1 m.entries (omega arith) hn (omega (arith, is.most)) is.entries,
      entries_bound replacement_word distance 1 m.replacements (omega arith) hn (omega (arith, is.most_waiting)) is.replacements,
    )

buckets_bound : (distance : ℕ) (ms : List Contents) → distance + length ms ≤ 1000 → All IsContents ms
    → length (buckets_rows distance ms) ≤ length ms * (20 * 137)
unfolding buckets_rows
buckets_bound distance [] hn is = omega arith
buckets_bound distance (m ∷ ms) hn is =
    omega (
      arith,
      length-append (bucket_rows distance m) (buckets_rows (suc distance) ms),
      bucket_bound distance m (omega arith) is.0,
      buckets_bound (suc distance) ms (omega arith) is.1,
    )

totals_bound : (ms : List Contents) → All IsContents ms → (entry_total ms ≤ length ms * 16) × (replacement_total ms ≤ length ms * 4)
unfolding entry_total replacement_total
totals_bound [] is = (omega arith, omega arith)
totals_bound (m ∷ ms) is =
    let rest = totals_bound ms is.1 in
    (omega (arith, is.0.most, rest.0), omega (arith, is.0.most_waiting, rest.1))

module _ (s : Bytes) (bs : IsBytes s) (h : table_sound s ≡ true) where
  all-contents : All IsContents (buckets_of s)
  all-contents =
      let t = sound_is_table s bs h in
      at-All IsContents (buckets_of s) no_contents
      (λ j k.
      let b = t.each j k in
      sound-contents (home (own_of s) (number_at (length (buckets_of s)) j)) (clock_of s) (get_or (buckets_of s) j no_contents) b.rules b.values)

  head-bound : length (table_row s) ≤ 41
  unfolding table_row
  head-bound =
      let texts : List Bytes = decimal (count_of s) ∷ decimal (clock_of s) ∷ decimal (entry_total (buckets_of s)) ∷ decimal (replacement_total (buckets_of s)) ∷ [] in
      let totals = totals_bound (buckets_of s) all-contents in
      let few = at-most s h in
      omega (
        arith,
        length-row table_word texts,
        length_below 2 (count_of s) (omega (arith, few)),
        length_bound (clock_of s) (sound_is_table s bs h).clock_fits,
        length_below 3 (entry_total (buckets_of s)) (omega (arith, totals.0, count_read s, few)),
        length_below 3 (replacement_total (buckets_of s)) (omega (arith, totals.1, count_read s, few)),
      )

pub printout-fits : PrintoutFits
unfolding printout
printout-fits s bs h =
    omega (
      arith,
      length-append (table_row s) (buckets_rows (257 - count_of s) (buckets_of s)),
      head-bound s bs h,
      count_read s,
      buckets_bound (257 - count_of s) (buckets_of s) (omega (arith, count_read s, at-most s h)) (all-contents s bs h),
    )
