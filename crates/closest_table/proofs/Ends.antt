-- The ways out of a closest call: the table isn't sound, or every bucket had its turn. Assumes nothing.
use mathlib.Core.Path.{◌≡◌, refl, sym, ap, ◌∙◌, fun_ext}
use mathlib.Core.Bool.{true, false}
use mathlib.Core.List.{List, [], ◌∷◌, ◌++◌, flat_map}
use Prim.Native.Nat.{ℕ, zero, suc, ◌+◌, ◌-◌, ◌≤◌, ◌<◌}
use native.Mathlib.Nat.{add-zero, zero-add}
use native.Mathlib.Omega.{arith}
use lib.ListN.{length, get_or, take}
use lib.Seq.{take_all}
use Rattle.octets.specs.Octets.{Bytes, IsBytes}
use Rattle.lists.specs.Lists.{all, All}
use Rattle.lists.proofs.Laws.{and_left, and_right, all_true}
use Rattle.keccak.specs.Sponge.{keccak256}
use Rattle.distance.specs.Distance.{distance, home}
use Rattle.entry.specs.declared.Entry.{Entry}
use Rattle.bucket_model.specs.Contents.{Contents}
use Rattle.bucket_model.specs.Sound.{sound}
use Rattle.closest_nearest.specs.declared.Nearest.{Nearest}
use Rattle.closest_nearest.specs.Sort.{sort_by}
use Rattle.closest_nearest.specs.Nearest.{farness, holding}
use Rattle.closest_order.specs.Taking.{rising, taken_from}
use Rattle.closest_order.specs.Taken.{entries_in, taken_in, distances}
use Rattle.closest_order.proofs.Turns.{total, total_length}
use Rattle.closest_order.proofs.Kept.{all-kept}
use Rattle.closest_order.proofs.InOrder.{put_in, AtHome, chosen-in-order}
use Rattle.table_model.specs.Layout.{tabulate, own_of, clock_of, count_of, number_at, bucket_bytes, bucket_at, buckets_of, header_sound}
use Rattle.table_model.specs.Sound.{anywhere, bucket_sound, buckets_sound, table_sound}
use Rattle.table_model.proofs.Home.{sound-split}
use Rattle.table_model.proofs.Sound.{below_all, below_false}
use Rattle.closest_table.specs.declared.Chosen.{Chosen}
use Rattle.closest_table.specs.Closest.{in_home, candidates_of, candidates_from, closest, nothing, closest_in}
use Rattle.closest_table.proofs.Nearest.{number_of_far}
use Rattle.closest_table.proofs.Walk.{length_candidates, few, size, kept, slot_of, members, seated, order, is_sound, Turned}

-- the entries of a bucket that is sound are at home there, and so are its candidates
module _ (own target : Bytes) (long : length target ≡ 32) (bytes : IsBytes target) (i : ℕ) where
  candidates-home : (slot index : ℕ) (es : List Entry) → All (λ e. in_home own i e ≡ true) es
      → All (AtHome own target farness i) (candidates_of target slot index es)
  unfolding candidates_of home
  candidates-home slot index [] h = tt
  candidates-home slot index (e ∷ es) h =
      ((keccak256 e.key, (number_of_far target long bytes e, h.0)), candidates-home slot (suc index) es h.1)

-- the candidates of all buckets, bucket after bucket in rising number
module _ (target : Bytes) (at : ℕ → Contents) (lowest : ℕ) where
  candidates-by-number : (n slot : ℕ) (f : ℕ → Contents) → ((k : ℕ) → f k ≡ at (slot + k))
      → flat_map (λ i. candidates_of target (i - lowest) 0 (at (i - lowest)).entries) (rising (lowest + slot) n) ≡ candidates_from target slot (tabulate n f)
  unfolding flat_map rising tabulate candidates_from
  candidates-by-number zero slot f h = refl
  candidates-by-number (suc n) slot f h =
      let here : lowest + slot - lowest ≡ slot = omega arith in
      let first : f 0 ≡ at slot = h 0 ∙ ap at (add-zero slot) in
      let next : suc (lowest + slot) ≡ lowest + suc slot = omega arith in
      let rest = candidates-by-number n (suc slot) (λ k. f (suc k)) (λ k. h (suc k) ∙ ap at (omega arith)) in
      rw (here, first, next) (ap (λ l. candidates_of target slot 0 (at slot).entries ++ l) rest)

module _ (s target : Bytes) where
  pub no_header : header_sound s ≡ false → {r : Chosen} → r ≡ nothing → r ≡ closest_in s target
  unfolding closest_in table_sound
  no_header h e = e ∙ simp h

  module _ (header : header_sound s ≡ true) where
    pub one-unsound : (k : ℕ) → k < count_of s → is_sound s target (get_or (order s target) k 0) ≡ false → {r : Chosen} → r ≡ nothing → r ≡ closest_in s target
    unfolding closest_in table_sound buckets_sound
    one-unsound k h f e =
        let i : ℕ = get_or (order s target) k 0 in
        let w = kept s target header k h in
        e ∙ simp (header, below_false (count_of s) (bucket_sound s) (slot_of s target i) (omega (arith, w.0, w.1)) f)

    module _ (long : length target ≡ 32) (bytes : IsBytes target) {best : Nearest} {n : ℕ} (t : Turned s target (count_of s) best n) where
      in_order : take (count_of s) (order s target) ≡ order s target
      in_order = take_all (count_of s) (order s target) (omega (arith, size s target header))

      all_tested : (i : ℕ) → 256 - count_of s ≤ i → i < 256 → is_sound s target i ≡ true
      all_tested =
          all-kept (distance (own_of s) target) (count_of s) (few s target header) (is_sound s target)
          (rw in_order at t.all_sound)

      each-sound : (slot : ℕ) → slot < count_of s → bucket_sound s slot ≡ true
      each-sound slot h =
          let e : slot_of s target (256 - count_of s + slot) ≡ slot = omega arith in
          rw e at (all_tested (256 - count_of s + slot) (omega arith) (omega (arith, few s target header)))

      homes : (i : ℕ) → 256 - count_of s ≤ i → i < 256 → All (AtHome (own_of s) target farness i) (members s target i)
      homes i low high =
          let slot : ℕ = slot_of s target i in
          let e : number_at (count_of s) slot ≡ i = omega arith in
          let here : sound (home (own_of s) i) (clock_of s) (bucket_bytes s slot) ≡ true = rw e at (all_tested i low high) in
          let all_home = and_right (sound anywhere (clock_of s) (bucket_bytes s slot)) _ (sym (sound-split (home (own_of s) i) (clock_of s) (bucket_bytes s slot)) ∙ here) in
          candidates-home (own_of s) target long bytes i slot 0 (entries_in s i)
          (all_true (in_home (own_of s) i) (entries_in s i) (and_left (all (in_home (own_of s) i) (entries_in s i)) _ all_home))

      by-slot : flat_map (members s target) (rising (256 - count_of s) (count_of s)) ≡ candidates_from target 0 (buckets_of s)
      unfolding buckets_of
      by-slot =
          ap (λ (j : ℕ). flat_map (members s target) (rising j (count_of s))) (sym (add-zero (256 - count_of s)))
          ∙ candidates-by-number target (bucket_at s) (256 - count_of s) (count_of s) 0 (bucket_at s) (λ k. ap (bucket_at s) (sym (zero-add k)))

      chosen : best ≡ holding (closest target (buckets_of s))
      unfolding closest
      chosen =
          t.nearest
          ∙ ap (λ l. holding (take 16 (put_in farness (members s target) (taken_from (seated s target) 0 l) []))) in_order
          ∙ ap holding (chosen-in-order (own_of s) target (count_of s) (few s target header) farness (members s target) homes)
          ∙ ap (λ l. holding (take 16 (sort_by farness l))) by-slot

      counted : n ≡ distances s target
      unfolding distances taken_in
      counted =
          t.count
          ∙ ap (λ l. total (seated s target) (taken_from (seated s target) 0 l)) in_order
          ∙ ap (λ (f : ℕ → ℕ). total f (taken_from f 0 (order s target))) (fun_ext (λ i. length_candidates target (slot_of s target i) 0 (entries_in s i)))
          ∙ sym (total_length (entries_in s) (taken_in s target))

      pub all-turned : record { sound = true; nearest = best; distances = n } ≡ closest_in s target
      unfolding closest_in table_sound buckets_sound
      all-turned =
          ap (λ (b : Nearest). let r : Chosen = record { sound = true; nearest = b; distances = n } in r) chosen
          ∙ ap (λ (m : ℕ). let r : Chosen = record { sound = true; nearest = holding (closest target (buckets_of s)); distances = m } in r) counted
          ∙ simp (header, below_all (count_of s) (bucket_sound s) each-sound)
