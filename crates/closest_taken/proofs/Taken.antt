-- The list and the count of a closest call, by the buckets taken. Assumes nothing.
use Prim.Native.Nat.{ℕ, ◌+◌, ◌-◌, ◌≤◌, ◌<◌}
use mathlib.Core.Path.{◌≡◌, refl, sym, ap, ◌∙◌}
use mathlib.Core.Bool.{true}
use mathlib.Core.List.{map, flat_map}
use native.Mathlib.Omega.{arith}
use lib.ListN.{length, get_or, take}
use Rattle.octets.specs.Octets.{Bytes, IsBytes}
use Rattle.lists.specs.Lists.{All}
use Rattle.lists.proofs.Laws.{All-imp}
use Rattle.keccak.specs.Sponge.{keccak256}
use Rattle.distance.specs.Distance.{distance, home, slot_of_number}
use Rattle.entry.specs.Nodes.{node_of}
use Rattle.bucket_model.specs.Contents.{no_contents}
use Rattle.bucket_model.specs.Facts.{EntrySound}
use Rattle.table_model.specs.Layout.{own_of, clock_of, count_of, number_at, bucket_at, buckets_of}
use Rattle.table_model.specs.Sound.{table_sound}
use Rattle.table_model.specs.Facts.{SoundBucket, SoundTable}
use Rattle.table_model.proofs.Records.{length-tabulate, get_d_tabulate}
use Rattle.table_model.proofs.Sound.{sound_is_table}
use Rattle.closest_nearest.specs.Sort.{sort_by}
use Rattle.closest_nodes.specs.Listing.{entries_of, distance_to, closest_nodes}
use Rattle.closest_order.specs.Taking.{rising, taking_order, taken_from}
use Rattle.closest_order.specs.Taken.{entries_in, taken_in, gathered, distances}
use Rattle.closest_order.proofs.ByNumber.{by_number}
use Rattle.closest_order.proofs.Turns.{total, total_length}
use Rattle.closest_order.proofs.Kept.{each-kept, kept_once, kept_only}
use Rattle.closest_order.proofs.Most.{at_most_31, enough}
use Rattle.closest_order.proofs.InOrder.{AtHome, sorted-taken}
use Rattle.closest_taken.specs.Taken.{TakenKeeps, TakenKeep}

module _ (s : Bytes) (bytes : IsBytes s) (h : table_sound s ≡ true) where
  table : SoundTable (own_of s) (clock_of s) (buckets_of s)
  table = sound_is_table s bytes h

  size : length (buckets_of s) ≡ count_of s
  unfolding buckets_of
  size = length-tabulate (count_of s) (bucket_at s)

  few : count_of s ≤ 256
  few = omega (arith, size, table.most)

  -- a kept bucket's contents are sound under its number
  kept-sound : (i : ℕ) → 256 - count_of s ≤ i → i < 256 → SoundBucket (home (own_of s) i) (clock_of s) (bucket_at s (slot_of_number (count_of s) i))
  unfolding buckets_of
  kept-sound i g k =
      let slot : ℕ = slot_of_number (count_of s) i in
      let within : slot < count_of s = omega (arith, few) in
      let its_number : number_at (length (buckets_of s)) slot ≡ i = omega (arith, size, few) in
      let contents : get_or (buckets_of s) slot no_contents ≡ bucket_at s slot = get_d_tabulate (count_of s) (bucket_at s) slot no_contents within in
      rw (its_number, contents) at (table.each slot (omega (arith, size)))

  seats : (i : ℕ) → 256 - count_of s ≤ i → i < 256 → length (entries_in s i) ≤ 16
  seats i g k = (kept-sound i g k).rules.entries_bound

  all-entries : entries_of s ≡ flat_map (entries_in s) (rising (256 - count_of s) (count_of s))
  unfolding buckets_of
  all-entries =
      by_number (λ b. b.entries) (entries_in s) (count_of s) (256 - count_of s) (bucket_at s)
      (λ j k. let slot : slot_of_number (count_of s) (256 - count_of s + j) ≡ j = omega arith in ap (λ n. (bucket_at s n).entries) slot)

  module _ (target : Bytes) where
    homes : (i : ℕ) → 256 - count_of s ≤ i → i < 256 → All (AtHome (own_of s) (keccak256 target) (distance_to target) i) (entries_in s i)
    unfolding home
    homes i g k =
        All-imp (EntrySound (home (own_of s) i) (clock_of s)) (AtHome (own_of s) (keccak256 target) (distance_to target) i)
        (λ e p. (keccak256 e.key, (refl, p.at_home))) (entries_in s i) (kept-sound i g k).rules.entries_sound

    abbrev x : ℕ
    x = distance (own_of s) (keccak256 target)

    abbrev seated : ℕ → ℕ
    seated i = length (entries_in s i)

    list_stays : closest_nodes s target ≡ map node_of (take 16 (sort_by (distance_to target) (gathered s (keccak256 target))))
    unfolding closest_nodes taken_in
    list_stays =
        ap (λ l. map node_of (take 16 (sort_by (distance_to target) l))) all-entries
        ∙ ap (map node_of) (sym (sorted-taken (own_of s) (keccak256 target) (count_of s) few (distance_to target) (entries_in s) homes))

    counted : distances s (keccak256 target) ≡ total seated (taken_from seated 0 (taking_order x (count_of s)))
    unfolding distances taken_in
    counted = total_length (entries_in s) (taken_in s (keccak256 target))

    keeps : TakenKeeps s target
    unfolding taken_in
    keeps =
        let few_seats : All (λ i. seated i ≤ 16) (taking_order x (count_of s)) =
        All-imp (λ i. (256 - count_of s ≤ i) × (i < 256)) (λ i. seated i ≤ 16) (λ i k. seats i k.0 k.1) (taking_order x (count_of s)) (each-kept x (count_of s) few) in
        record {
          list_stays = list_stays;
          at_most_31 = rw counted (at_most_31 seated (taking_order x (count_of s)) few_seats);
          enough = rw counted (enough seated (taking_order x (count_of s)));
          kept_once = kept_once x (count_of s) few;
          kept_only = kept_only x (count_of s) few;
        }

pub taken_keep : TakenKeep
taken_keep s target bytes h = keeps s bytes h target
