-- Rows one after the other: what is still to be written of them. Assumes nothing.
use mathlib.Core.Path.{◌≡◌, sym, ap, ◌∙◌}
use mathlib.Core.List.{List, [], ◌∷◌, ◌++◌, append_assoc, append-nil}
use Prim.Native.Nat.{ℕ, suc, ◌+◌, ◌-◌, ◌*◌, ◌≤◌, ◌<◌}
use native.Mathlib.Numerals.{add-one}
use native.Mathlib.Omega.{arith}
use lib.ListN.{length, drop, drop_of_length-le}
use Rattle.octets.specs.Octets.{Bytes, part}
use Rattle.lists.specs.Lists.{All}
use Rattle.entry.specs.declared.Entry.{Entry}
use Rattle.entry.specs.Layout.{decode_entry}
use Rattle.bucket_model.specs.Contents.{Contents, entries_at}
use Rattle.table_model.specs.Layout.{count_of, bucket_at, buckets_of}
use Rattle.table_model.proofs.Entries.{behind, behind_none, behind_all, behind_turn}
use Rattle.table_model.proofs.Table.{count_read}
use Rattle.octets.proofs.Writing.{Wrote}
use Rattle.octets.proofs.Progress.{Progress, concat, start, finish}
use Rattle.printout_entry.specs.EntryRow.{entry_row}
use Rattle.printout.specs.Printout.{entry_rows, bucket_rows, buckets_rows}
use Rattle.printout.proofs.HeadRows.{next-bucket}

-- ---- a text that is written part by part

module _ {d₀ : Bytes} {at : ℕ} {all : List Bytes} {d : Bytes} {n : ℕ} where
  -- the next is to be written in two parts
  pub parted : {rest : Bytes} (x y : Bytes) {xs : List Bytes} → rest ≡ x ++ y → Progress d₀ at all (rest ∷ xs) d n → Progress d₀ at all (x ∷ y ∷ xs) d n
  parted {rest} x y {xs} e p =
      record {
        done = p.done;
        split = ap (λ (t : Bytes). p.done ++ t) (sym (append_assoc x y (concat xs)) ∙ ap (λ (t : Bytes). t ++ concat xs) (sym e)) ∙ p.split;
        wrote = p.wrote;
        fits = p.fits;
      }

  -- nothing is left of the next
  pub passed : {rest : Bytes} {xs : List Bytes} → rest ≡ [] → Progress d₀ at all (rest ∷ xs) d n → Progress d₀ at all xs d n
  passed {rest} {xs} e p =
      record {
        done = p.done;
        split = ap (λ (t : Bytes). p.done ++ (t ++ concat xs)) (sym e) ∙ p.split;
        wrote = p.wrote;
        fits = p.fits;
      }

-- one text
module _ (d : Bytes) (at : ℕ) (x : Bytes) where
  pub start-one : at + length x ≤ length d → Progress d at (x ∷ []) (x ∷ []) d at
  start-one h = start d at (x ∷ []) (omega (arith, ap length (append-nil x)))

  pub finish-one : {d' : Bytes} {n : ℕ} → Progress d at (x ∷ []) [] d' n → Wrote d at x d' n
  finish-one p = finish p (append-nil x)

-- ---- the rows of entries in bytes

module _ (word : Bytes) (distance : ℕ) (s : Bytes) (from n : ℕ) where
  -- the rows of the entries from index i on
  abbrev pub rows_behind : ℕ → Bytes
  rows_behind i = entry_rows word distance (i + 1) (behind s from n i)

  pub all-rows : rows_behind 0 ≡ entry_rows word distance 1 (entries_at s from n)
  all-rows = ap (λ (es : List Entry). entry_rows word distance 1 es) (behind_all s from n)

  pub no_rows : (i : ℕ) → i ≤ n → n ≤ i → rows_behind i ≡ []
  unfolding entry_rows
  no_rows i h k =
      let e : i ≡ n = omega arith in
      ap (λ (j : ℕ). entry_rows word distance (i + 1) (behind s from n j)) e ∙ ap (λ (es : List Entry). entry_rows word distance (i + 1) es) (behind_none s from n)

  module _ (i : ℕ) (h : i < n) where
    next-entry : behind s from n i ≡ decode_entry (part s (from + i * 143) 143) ∷ behind s from n (i + 1)
    next-entry =
        let e : i + 1 - 1 ≡ i = omega arith in
        rw e at (behind_turn s from n (i + 1) (omega arith) (omega arith))

    next_row : {e : Entry} → e ≡ decode_entry (part s (from + i * 143) 143) → rows_behind i ≡ entry_row word distance (i + 1) e ++ rows_behind (i + 1)
    unfolding entry_rows
    next_row {e} is =
        ap (λ (es : List Entry). entry_rows word distance (i + 1) es) next-entry
        ∙ ap (λ (x : Entry). entry_row word distance (i + 1) x ++ entry_rows word distance (suc (i + 1)) (behind s from n (i + 1))) (sym is)
        ∙ ap (λ (k : ℕ). entry_row word distance (i + 1) e ++ entry_rows word distance k (behind s from n (i + 1))) (sym (add-one (i + 1)))

    -- the next row is the next to be written
    pub due-row : {d₀ : Bytes} {at : ℕ} {all : List Bytes} {d : Bytes} {next : ℕ} {e : Entry}
        → e ≡ decode_entry (part s (from + i * 143) 143) → Progress d₀ at all (rows_behind i ∷ []) d next
        → Progress d₀ at all (entry_row word distance (i + 1) e ∷ rows_behind (i + 1) ∷ []) d next
    due-row {e = e} is p = parted (entry_row word distance (i + 1) e) (rows_behind (i + 1)) (next_row is) p

    module _ (P : Entry → Type 0) (all : All P (behind s from n i)) where
      here-and-behind : P (decode_entry (part s (from + i * 143) 143)) × All P (behind s from n (i + 1))
      here-and-behind = rw next-entry at all

      pub holds-here : {e : Entry} → e ≡ decode_entry (part s (from + i * 143) 143) → P e
      holds-here is = rw is here-and-behind.0

      pub holds-behind : All P (behind s from n (i + 1))
      holds-behind = here-and-behind.1

-- ---- the rows of buckets

module _ (s : Bytes) where
  abbrev pub first_distance : ℕ
  first_distance = 257 - count_of s

  -- the rows of the buckets from a slot on
  abbrev pub rows_from : ℕ → Bytes
  rows_from slot = buckets_rows (first_distance + slot) (drop slot (buckets_of s))

  pub all-buckets : rows_from 0 ≡ buckets_rows first_distance (buckets_of s)
  all-buckets = let e : first_distance + 0 ≡ first_distance = omega arith in ap (λ (k : ℕ). buckets_rows k (buckets_of s)) e

  pub no-buckets : (slot : ℕ) → count_of s ≤ slot → rows_from slot ≡ []
  unfolding buckets_rows
  no-buckets slot h =
      ap (λ (bs : List Contents). buckets_rows (first_distance + slot) bs) (drop_of_length-le (buckets_of s) {i = slot} (omega (arith, count_read s)))

  next-rows : (slot : ℕ) → slot < count_of s → rows_from slot ≡ bucket_rows (first_distance + slot) (bucket_at s slot) ++ rows_from (slot + 1)
  unfolding buckets_rows
  next-rows slot h =
      let e : suc (first_distance + slot) ≡ first_distance + (slot + 1) = omega arith in
      ap (λ (bs : List Contents). buckets_rows (first_distance + slot) bs) (next-bucket s slot h)
      ∙ ap (λ (k : ℕ). bucket_rows (first_distance + slot) (bucket_at s slot) ++ buckets_rows k (drop (slot + 1) (buckets_of s))) e

  -- the next bucket's rows are the next to be written
  pub due-rows : (slot : ℕ) → slot < count_of s → {d₀ : Bytes} {at : ℕ} {all : List Bytes} {d : Bytes} {next distance : ℕ}
      → distance ≡ first_distance + slot → Progress d₀ at all (rows_from slot ∷ []) d next
      → Progress d₀ at all (bucket_rows distance (bucket_at s slot) ∷ rows_from (slot + 1) ∷ []) d next
  due-rows slot h {distance = distance} is p =
      parted (bucket_rows distance (bucket_at s slot)) (rows_from (slot + 1))
      (next-rows slot h ∙ ap (λ (k : ℕ). bucket_rows k (bucket_at s slot) ++ rows_from (slot + 1)) (sym is)) p
