-- A bucket taken: its test, in the two parts that the walk over its entries makes; and its turn. Assumes nothing.
use mathlib.Core.Path.{◌≡◌, refl, sym, ap, ◌∙◌}
use mathlib.Core.Bool.{Bool, true, false, ◌&&◌}
use mathlib.Core.List.{List}
use Prim.Native.Nat.{ℕ, ◌+◌, ◌≤◌, ◌<◌}
use borrow.Author.Tests.{le-leb, lt-leb}
use lib.ListN.{length, get_or}
use Rattle.octets.specs.Octets.{Bytes}
use Rattle.lists.specs.Lists.{all}
use Rattle.distance.specs.Distance.{home}
use Rattle.entry.specs.declared.Entry.{Entry}
use Rattle.bucket_model.specs.Contents.{entries_at}
use Rattle.bucket_model.specs.Sound.{sound}
use Rattle.bucket_model.proofs.ByteForm.{decode-bucket, length-entries_at}
use Rattle.closest_nearest.specs.declared.Near.{Near}
use Rattle.closest_nearest.specs.declared.Nearest.{Nearest}
use Rattle.closest_nearest.specs.Nearest.{holding, held, Ordered}
use Rattle.table_model.specs.Layout.{offset_of, bucket_bytes, bucket_at}
use Rattle.table_model.specs.Sound.{anywhere}
use Rattle.table_model.proofs.Home.{sound-split}
use Rattle.table_model.proofs.Sound.{counts_at}
use Rattle.closest_table.specs.Closest.{in_home}
use Rattle.closest_table.specs.Steps.{with_bucket, nearest_after, distances_after}

module _ (s : Bytes) (slot clock : ℕ) (own : Bytes) (number : ℕ) where
  pub not_taken : {settled : Bool} → settled ≡ sound anywhere clock (bucket_bytes s slot) → settled ≡ false
      → false ≡ sound (home own number) clock (bucket_bytes s slot)
  not_taken e h =
      sym (sound-split (home own number) clock (bucket_bytes s slot)
      ∙ ap (λ b. b && (all (in_home own number) (bucket_at s slot).entries && all (in_home own number) (bucket_at s slot).replacements)) (sym e ∙ h))

  module _ (fits : offset_of slot + 2862 ≤ length s) (h : sound anywhere clock (bucket_bytes s slot) ≡ true) where
    pub counts : (get_or s (offset_of slot) 0 ≤ 16) × (get_or s (offset_of slot + 1) 0 ≤ 4)
    counts = counts_at anywhere clock s (offset_of slot) fits h

    entries-are : entries_at s (offset_of slot + 2) (get_or s (offset_of slot) 0) ≡ (bucket_at s slot).entries
    entries-are = sym (ap (λ m. m.entries) (decode-bucket s (offset_of slot) fits counts.0 counts.1))

    replacements-are : entries_at s (offset_of slot + 2290) (get_or s (offset_of slot + 1) 0) ≡ (bucket_at s slot).replacements
    replacements-are = sym (ap (λ m. m.replacements) (decode-bucket s (offset_of slot) fits counts.0 counts.1))

    pub taken : {line entries r : Bool}
        → line ≡ all (in_home own number) (entries_at s (offset_of slot + 2290) (get_or s (offset_of slot + 1) 0))
        → entries ≡ all (in_home own number) (entries_at s (offset_of slot + 2) (get_or s (offset_of slot) 0))
        → r ≡ (entries && line)
        → r ≡ sound (home own number) clock (bucket_bytes s slot)
    taken {line} {entries} el ee er =
        er
        ∙ ap (λ b. b && line) (ee ∙ ap (all (in_home own number)) entries-are)
        ∙ ap (λ b. all (in_home own number) (bucket_at s slot).entries && b) (el ∙ ap (all (in_home own number)) replacements-are)
        ∙ sym (sound-split (home own number) clock (bucket_bytes s slot)
        ∙ ap (λ b. b && (all (in_home own number) (bucket_at s slot).entries && all (in_home own number) (bucket_at s slot).replacements)) h)

    -- its entries put in, with a distance worked out for each
    pub gathered : (target : Bytes) (l : List Near) {best : Nearest} {n : ℕ}
        → best ≡ holding (with_bucket target slot (entries_at s (offset_of slot + 2) (get_or s (offset_of slot) 0)) l) → n ≡ get_or s (offset_of slot) 0
        → (best ≡ holding (with_bucket target slot (bucket_at s slot).entries l)) × (n ≡ length (bucket_at s slot).entries)
    gathered target l eb en = (
      eb ∙ ap (λ es. holding (with_bucket target slot es l)) entries-are,
      en ∙ sym (length-entries_at s (offset_of slot + 2) (get_or s (offset_of slot) 0)) ∙ ap length entries-are,
    )

-- ---- a bucket's turn

module _ (n : ℕ) (target : Bytes) (slot : ℕ) (es : List Entry) (nearest : Nearest) where
  -- sixteen are gathered: nothing is put in
  pub not-put-in : 16 ≤ n → Ordered nearest → (nearest ≡ holding (nearest_after n target slot es (held nearest))) × (n ≡ distances_after n es)
  unfolding nearest_after distances_after
  not-put-in h o = (o.form ∙ sym (rw (le-leb 16 n h) refl), sym (rw (le-leb 16 n h) refl))

  pub put_in : n < 16 → {best : Nearest} {m : ℕ} → (best ≡ holding (with_bucket target slot es (held nearest))) × (m ≡ length es)
      → (best ≡ holding (nearest_after n target slot es (held nearest))) × (n + m ≡ distances_after n es)
  unfolding nearest_after distances_after
  put_in h e = (e.0 ∙ sym (rw (lt-leb 16 n h) refl), ap (λ k. n + k) e.1 ∙ sym (rw (lt-leb 16 n h) refl))
