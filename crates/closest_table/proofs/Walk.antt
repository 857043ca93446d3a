-- The buckets in the order in which they are taken, turn by turn, and what is chosen in the end. Assumes nothing.
use mathlib.Core.Path.{◌≡◌, refl, sym, ap, ◌∙◌}
use mathlib.Core.Bool.{Bool, true}
use mathlib.Core.List.{List, [], ◌∷◌, ◌++◌}
use Prim.Native.Nat.{ℕ, suc, ◌-◌, ◌≤◌, ◌<◌}
use native.Mathlib.Omega.{arith}
use borrow.Author.Tests.{leb-true, leb-false}
use lib.Dec.{leb}
use lib.ListN.{length, get_or, take, length-take}
use lib.Seq.{take-suc, get_or-take}
use Rattle.octets.specs.Octets.{Bytes}
use Rattle.lists.specs.Lists.{all}
use Rattle.lists.proofs.Laws.{by_test, All-at}
use Rattle.distance.specs.Distance.{distance, home, slot_of_number}
use Rattle.entry.specs.declared.Entry.{Entry}
use Rattle.bucket_model.specs.Sound.{sound}
use Rattle.closest_nearest.specs.declared.Near.{Near}
use Rattle.closest_nearest.specs.declared.Nearest.{Nearest}
use Rattle.closest_nearest.specs.Sort.{insert_all}
use Rattle.closest_nearest.specs.Nearest.{farness, holding, held, Ordered}
use Rattle.closest_nearest.proofs.Sort.{Sorted, sorted_all, take-insert-all, Rising-take}
use Rattle.closest_nearest.proofs.Held.{held-holding, ordered_holding}
use Rattle.closest_order.specs.Taking.{taking_order}
use Rattle.closest_order.specs.Taken.{entries_in}
use Rattle.closest_order.proofs.Turns.{total, total_last, taken_up_to, taken_start, turn_more, turn-full}
use Rattle.closest_order.proofs.Kept.{length-order, each-kept}
use Rattle.closest_order.proofs.InOrder.{put_in, put-in-last}
use Rattle.table_model.specs.Layout.{own_of, clock_of, count_of, number_at, bucket_bytes, bucket_at, header_sound}
use Rattle.table_model.specs.Sound.{bucket_sound}
use Rattle.table_model.proofs.Header.{header-sound}
use Rattle.table_model.proofs.Home.{all_append}
use Rattle.closest_table.specs.Closest.{candidates_of}
use Rattle.closest_table.specs.Steps.{nearest_after, distances_after}

pub length_candidates : (target : Bytes) (slot i : ℕ) (es : List Entry) → length (candidates_of target slot i es) ≡ length es
unfolding candidates_of
length_candidates target slot i [] = refl
length_candidates target slot i (e ∷ es) = ap suc (length_candidates target slot (suc i) es)

-- buckets put in leave the sixteen in order
put_sorted : (members : ℕ → List Near) (is : List ℕ) (m : List Near) → Sorted farness m → Sorted farness (put_in farness members is m)
unfolding put_in
put_sorted members [] m r = r
put_sorted members (i ∷ is) m r = put_sorted members is (insert_all farness (members i) m) (sorted_all farness (members i) m r)

module _ (s target : Bytes) where
  -- where the bucket with a number stands, its candidates, and how many they are
  abbrev pub slot_of : ℕ → ℕ
  slot_of i = slot_of_number (count_of s) i

  abbrev pub members : ℕ → List Near
  members i = candidates_of target (slot_of i) 0 (entries_in s i)

  abbrev pub seated : ℕ → ℕ
  seated i = length (members i)

  abbrev pub order : List ℕ
  order = taking_order (distance (own_of s) target) (count_of s)

  -- those taken in the first k turns
  abbrev pub taken : ℕ → List ℕ
  taken k = taken_up_to seated order k

  abbrev pub is_sound : ℕ → Bool
  is_sound i = bucket_sound s (slot_of i)

  -- what is held after k turns
  pub record Turned (k : ℕ) (best : Nearest) (n : ℕ) : Type 0 where
    pub all_sound : all is_sound (take k order) ≡ true
    pub nearest : best ≡ holding (take 16 (put_in farness members (taken k) []))
    pub count : n ≡ total seated (taken k)

  pub no-turn : {best : Nearest} → best ≡ holding [] → Turned 0 best 0
  unfolding put_in
  no-turn e =
      let none : taken 0 ≡ [] = taken_start seated order in
      record {
        all_sound = refl;
        nearest = e ∙ ap (λ l. holding (take 16 (put_in farness members l []))) (sym none);
        count = sym (ap (total seated) none);
      }

  pub turned-ordered : (k : ℕ) {best : Nearest} {n : ℕ} → Turned k best n → Ordered best
  turned-ordered k t =
      let l : List Near = put_in farness members (taken k) [] in
      rw t.nearest
      (ordered_holding (take 16 l) (omega (arith, length-take 16 l))
      (Rising-take (λ a b. farness a ≤ farness b) 16 l (put_sorted members (taken k) [] tt)))

  module _ (header : header_sound s ≡ true) where
    pub few : count_of s ≤ 256
    few = (header-sound s header).most

    pub size : length order ≡ count_of s
    size = length-order (distance (own_of s) target) (count_of s) few

    -- the number of the k-th bucket in the order is a kept one
    pub kept : (k : ℕ) → k < count_of s → (256 - count_of s ≤ get_or order k 0) × (get_or order k 0 < 256)
    kept k h =
        All-at (λ i. (256 - count_of s ≤ i) × (i < 256)) order 0 (each-kept (distance (own_of s) target) (count_of s) few) k (omega (arith, size))

    -- the bucket of a turn, by what is read of the header and of the order
    module _ (found : List ℕ) {own : Bytes} {clock count : ℕ} (eo : own ≡ own_of s) (ec : clock ≡ clock_of s) (en : count ≡ count_of s)
        (ef : take count found ≡ taking_order (distance own target) count) (k : ℕ) (h : k < count) where
      abbrev number : ℕ
      number = get_or found k 0

      number_is : number ≡ get_or order k 0
      number_is =
          let e : take count found ≡ order = ef ∙ cc in
          sym (get_or-take count found k 0 h) ∙ ap (λ l. get_or l k 0) e

      pub is_kept : (256 - count ≤ get_or found k 0) × (get_or found k 0 < 256)
      is_kept = let w = kept k (omega arith) in (omega (arith, number_is, w.0), omega (arith, number_is, w.1))

      pub slot_is : get_or found k 0 - (256 - count) ≡ slot_of (get_or order k 0)
      slot_is = cc (number_is)

      pub test-is : {r : Bool} → r ≡ sound (home own (get_or found k 0)) clock (bucket_bytes s (get_or found k 0 - (256 - count))) → r ≡ is_sound (get_or order k 0)
      test-is {r} e =
          let place : number ≡ number_at (count_of s) (slot_of (get_or order k 0)) = omega (arith, number_is, is_kept.0) in
          e ∙ cc (place, slot_is)

    -- one turn more
    module _ (k : ℕ) (h : k < count_of s) {best : Nearest} {n : ℕ} (t : Turned k best n) where
      abbrev i : ℕ
      i = get_or order k 0

      within : k < length order
      within = omega (arith, size)

      more-sound : is_sound i ≡ true → all is_sound (take (suc k) order) ≡ true
      more-sound e =
          ap (all is_sound) (take-suc order k 0 within)
          ∙ all_append is_sound (take k order) (i ∷ [])
          ∙ rw (t.all_sound, e) refl

      pub turn : {next : Nearest} {m slot : ℕ} → is_sound i ≡ true → slot ≡ slot_of i
          → (next ≡ holding (nearest_after n target slot (bucket_at s slot).entries (held best))) × (m ≡ distances_after n (bucket_at s slot).entries)
          → Turned (suc k) next m
      unfolding nearest_after distances_after
      turn {next} {m} e es r =
          let en : next ≡ holding (nearest_after n target (slot_of i) (entries_in s i) (held best)) = rw es at r.0 in
          let em : m ≡ distances_after n (entries_in s i) = rw es at r.1 in
          let l : List Near = put_in farness members (taken k) [] in
          let old : held best ≡ take 16 l = ap held t.nearest ∙ held-holding (take 16 l) in
          by_test (leb 16 n)
          (λ full.
          let same : taken (suc k) ≡ taken k = turn-full seated order k within (omega (arith, t.count, leb-true 16 n full)) in
          record {
            all_sound = more-sound e;
            nearest = rw full at en ∙ ap holding old ∙ ap (λ is. holding (take 16 (put_in farness members is []))) (sym same);
            count = rw full at em ∙ t.count ∙ ap (total seated) (sym same);
          })
          (λ fewer.
          let next_taken : taken (suc k) ≡ taken k ++ (i ∷ []) = turn_more seated order k within (omega (arith, t.count, leb-false 16 n fewer)) in
          record {
            all_sound = more-sound e;
            nearest =
                rw fewer at en
                ∙ ap (λ b. holding (take 16 (insert_all farness (members i) b))) old
                ∙ ap holding (take-insert-all farness 16 (members i) l)
                ∙ ap (λ b. holding (take 16 b)) (sym (put-in-last farness members (taken k) i []))
                ∙ ap (λ is. holding (take 16 (put_in farness members is []))) (sym next_taken);
            count =
                rw fewer at em
                ∙ omega (arith, t.count, length_candidates target (slot_of i) 0 (entries_in s i))
                ∙ sym (total_last seated (taken k) i)
                ∙ ap (total seated) (sym next_taken);
          })
