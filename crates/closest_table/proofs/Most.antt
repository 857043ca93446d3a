-- In a sound table no bucket has more than sixteen entries, so that at most 31 distances are worked out. Assumes nothing.
use mathlib.Core.Path.{◌≡◌, ap, ◌∙◌}
use mathlib.Core.Bool.{true}
use Prim.Native.Nat.{ℕ, ◌+◌, ◌-◌, ◌≤◌, ◌<◌}
use native.Mathlib.Nat.{add-zero}
use native.Mathlib.Omega.{arith}
use lib.ListN.{length, get_or}
use Rattle.octets.specs.Octets.{Bytes, part}
use Rattle.octets.proofs.Laws.{get_d_part}
use Rattle.lists.specs.Lists.{All}
use Rattle.lists.proofs.Laws.{All-imp, and_right}
use Rattle.distance.specs.Distance.{distance, home, slot_of_number}
use Rattle.bucket_model.specs.Contents.{decode_bucket}
use Rattle.bucket_model.proofs.ByteForm.{length-entries_at}
use Rattle.table_model.specs.Layout.{offset_of, number_at, own_of, clock_of, count_of, bucket_at, header_sound}
use Rattle.table_model.specs.Sound.{bucket_sound, buckets_sound, table_sound}
use Rattle.table_model.proofs.Sound.{table_header, all-below, counts_at}
use Rattle.closest_order.specs.Taking.{taking_order}
use Rattle.closest_order.specs.Taken.{entries_in, taken_in, distances}
use Rattle.closest_order.proofs.Turns.{total_length}
use Rattle.closest_order.proofs.Kept.{each-kept}
use Rattle.closest_order.proofs.Most as order

module _ (s : Bytes) (sound : table_sound s ≡ true) where
  module _ (slot : ℕ) (within : slot < count_of s) where
    pub slot-fits : offset_of slot + 2862 ≤ length s
    slot-fits = omega (arith, (table_header s sound).size)

    its-test : bucket_sound s slot ≡ true
    unfolding table_sound buckets_sound
    its-test = all-below (count_of s) (bucket_sound s) (and_right (header_sound s) (buckets_sound s) sound) slot within

    pub few-entries : get_or s (offset_of slot) 0 ≤ 16
    few-entries = (counts_at (home (own_of s) (number_at (count_of s) slot)) (clock_of s) s (offset_of slot) slot-fits its-test).0

    pub entries-are : length (bucket_at s slot).entries ≡ get_or s (offset_of slot) 0
    unfolding decode_bucket
    entries-are =
        let at : ℕ = offset_of slot in
        length-entries_at (part s at 2862) 2 (get_or (part s at 2862) 0 0)
        ∙ get_d_part s at 2862 0 (omega arith)
        ∙ ap (λ (k : ℕ). get_or s k 0) (add-zero at)

  pub at_most_31 : (target : Bytes) → distances s target ≤ 31
  unfolding distances taken_in
  at_most_31 target =
      let seated : ℕ → ℕ = λ i. length (entries_in s i) in
      let few : count_of s ≤ 256 = (table_header s sound).most in
      let l = taking_order (distance (own_of s) target) (count_of s) in
      let seats : All (λ i. seated i ≤ 16) l =
      All-imp (λ i. (256 - count_of s ≤ i) × (i < 256)) (λ i. seated i ≤ 16)
      (λ i k. let slot : slot_of_number (count_of s) i < count_of s = omega arith in
      omega (arith, few-entries (slot_of_number (count_of s) i) slot, entries-are (slot_of_number (count_of s) i) slot))
      l (each-kept (distance (own_of s) target) (count_of s) few) in
      rw (total_length (entries_in s) (taken_in s target)) (order.at_most_31 seated l seats)
