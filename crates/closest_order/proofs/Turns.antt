-- The buckets taken, one turn after the other. Assumes nothing.
use Prim.Native.Nat.{ℕ, zero, suc, ◌+◌, ◌≤◌, ◌<◌}
use mathlib.Core.Path.{◌≡◌, refl, sym, ap, ◌∙◌}
use mathlib.Core.List.{List, [], ◌∷◌, ◌++◌, flat_map}
use native.Mathlib.Omega.{arith}
use borrow.Author.Tests.{leb-true, leb-false, le-leb, lt-leb}
use lib.Dec.{leb}
use lib.ListN.{length, take, get_or, length-append}
use lib.Seq.{take-length}
use Rattle.lists.proofs.Laws.{by_test}
use Rattle.closest_order.specs.Taking.{taken_from}

-- the sum of `seated` over a list of bucket numbers
abbrev pub total : (ℕ → ℕ) → List ℕ → ℕ
total seated [] = 0
total seated (i ∷ is) = seated i + total seated is

pub total_last : (seated : ℕ → ℕ) (is : List ℕ) (i : ℕ) → total seated (is ++ (i ∷ [])) ≡ total seated is + seated i
total_last seated [] i = omega arith
total_last seated (j ∷ is) i = omega (arith, total_last seated is i)

pub total_length : {A : Type 0} (members : ℕ → List A) (is : List ℕ) → length (flat_map members is) ≡ total (λ i. length (members i)) is
unfolding flat_map
total_length members [] = refl
total_length members (i ∷ is) = length-append (members i) (flat_map members is) ∙ ap (λ n. length (members i) + n) (total_length members is)

by_sixteen : {P : Type 0} (m : ℕ) → (16 ≤ m → P) → (m < 16 → P) → P
by_sixteen m f g = by_test (leb 16 m) (λ e. f (leb-true 16 m e)) (λ e. g (leb-false 16 m e))

-- where n are gathered already
module _ (seated : ℕ → ℕ) where
  -- with the bucket i sixteen are gathered, or more buckets are taken
  pub taken-last : (n i : ℕ) (more : List ℕ) → 16 ≤ n + seated i → taken_from seated n (i ∷ more) ≡ i ∷ []
  unfolding taken_from
  taken-last n i more h = rw le-leb

  pub taken-on : (n i : ℕ) (more : List ℕ) → n + seated i < 16 → taken_from seated n (i ∷ more) ≡ i ∷ taken_from seated (n + seated i) more
  unfolding taken_from
  taken-on n i more h = rw lt-leb

  pub taken-cases : (P : List ℕ → Type 0) (n i : ℕ) (more : List ℕ) → (16 ≤ n + seated i → P (i ∷ []))
      → (n + seated i < 16 → P (i ∷ taken_from seated (n + seated i) more)) → P (taken_from seated n (i ∷ more))
  taken-cases P n i more f g = by_sixteen (n + seated i) (λ h. rw (taken-last n i more h) (f h)) (λ h. rw (taken-on n i more h) (g h))

  pub taken_none : (n : ℕ) → taken_from seated n [] ≡ []
  unfolding taken_from
  taken_none n = refl

  taken-first : (n i : ℕ) → taken_from seated n (i ∷ []) ≡ i ∷ []
  taken-first n i = taken-cases (λ l. l ≡ i ∷ []) n i [] (λ h. refl) (λ h. ap (λ l. i ∷ l) (taken_none (n + seated i)))

  more-from : (order : List ℕ) (k n : ℕ) → k < length order → n + total seated (taken_from seated n (take k order)) < 16
      → taken_from seated n (take (suc k) order) ≡ taken_from seated n (take k order) ++ (get_or order k 0 ∷ [])
  more-from [] k n h few = absurd (omega arith)
  more-from (i ∷ order) zero n h few = taken-first n i ∙ ap (λ l. l ++ (i ∷ [])) (sym (taken_none n))
  more-from (i ∷ order) (suc k) n h few =
      by_sixteen (n + seated i)
      (λ g. absurd (omega (arith, rw (taken-last n i (take k order) g) at few)))
      (λ g. rw (taken-on n i (take (suc k) order) g, taken-on n i (take k order) g)
      (ap (λ m. i ∷ m) (more-from order k (n + seated i) (omega arith) (omega (arith, rw (taken-on n i (take k order) g) at few)))))

  full_from : (order : List ℕ) (k n : ℕ) → n < 16 → k < length order → 16 ≤ n + total seated (taken_from seated n (take k order))
      → taken_from seated n (take (suc k) order) ≡ taken_from seated n (take k order)
  full_from [] k n below h full = absurd (omega arith)
  full_from (i ∷ order) zero n below h full = absurd (omega (arith, rw (taken_none n) at full))
  full_from (i ∷ order) (suc k) n below h full =
      by_sixteen (n + seated i)
      (λ g. rw (taken-last n i (take (suc k) order) g, taken-last n i (take k order) g) refl)
      (λ g. rw (taken-on n i (take (suc k) order) g, taken-on n i (take k order) g)
      (ap (λ m. i ∷ m) (full_from order k (n + seated i) g (omega arith) (omega (arith, rw (taken-on n i (take k order) g) at full)))))

module _ (seated : ℕ → ℕ) (order : List ℕ) where
  -- those taken of the first k of the order
  abbrev pub taken_up_to : ℕ → List ℕ
  taken_up_to k = taken_from seated 0 (take k order)

  pub taken_start : taken_up_to 0 ≡ []
  unfolding taken_from
  taken_start = refl

  pub taken-end : taken_up_to (length order) ≡ taken_from seated 0 order
  taken-end = ap (taken_from seated 0) (take-length order)

  -- fewer than sixteen are gathered: the next bucket is taken
  pub turn_more : (k : ℕ) → k < length order → total seated (taken_up_to k) < 16 → taken_up_to (suc k) ≡ taken_up_to k ++ (get_or order k 0 ∷ [])
  turn_more k h few = more-from seated order k 0 h (omega arith)

  pub turn-full : (k : ℕ) → k < length order → 16 ≤ total seated (taken_up_to k) → taken_up_to (suc k) ≡ taken_up_to k
  turn-full k h full = full_from seated order k 0 (omega arith) h (omega arith)
