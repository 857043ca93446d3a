-- The order has each kept bucket's number once, and no other. Assumes nothing.
use Prim.Native.Nat.{ℕ, zero, suc, ◌+◌, ◌-◌, ◌≤◌, ◌<◌}
use mathlib.Core.Path.{◌≡◌, refl, sym, ap, ◌∙◌}
use mathlib.Core.Bool.{Bool, true, false}
use mathlib.Core.List.{List, [], ◌∷◌}
use native.Mathlib.Nat.{zero-add}
use native.Mathlib.Omega.{arith}
use borrow.Author.Tests.{ne_eqb, eqb-true, eqb-false}
use lib.Dec.{eqb}
use lib.ListN.{length}
use Rattle.lists.specs.Lists.{select, any, all, All}
use Rattle.lists.proofs.Laws.{by_test, or_elim, never, All-imp, all_true, select-none}
use Rattle.closest_order.specs.Taking.{rising, falling, taking_order}
use Rattle.closest_order.proofs.Order.{set_ones, clear_ones, order_from, order_is, order-more, Within, within-order, length-between, between-All, select-between}

-- what holds of each of a list holds of a number found there
found-All : (P : ℕ → Type 0) (i : ℕ) (l : List ℕ) → All P l → any (eqb i) l ≡ true → P i
found-All P i [] p h = never (sym h)
found-All P i (j ∷ l) p h = or_elim (eqb i j) (any (eqb i) l) h (λ e. rw (eqb-true i j e) p.0) (found-All P i l p.1)

-- from any lowest number on
module _ (x : ℕ) where
  length_from : (n lowest : ℕ) → length (order_from x lowest n) ≡ n
  unfolding rising falling
  length_from zero lowest = refl
  length_from (suc n) lowest =
      rw (order-more x lowest n) (length-between lowest (set_ones x (suc lowest) n) (clear_ones x (suc lowest) n) ∙ ap suc (length_from n (suc lowest)))

  each_from : (P : ℕ → Type 0) (n lowest : ℕ) → All P (order_from x lowest n) → (i : ℕ) → lowest ≤ i → i < lowest + n → P i
  each_from P zero lowest p i g h = absurd (omega arith)
  each_from P (suc n) lowest p i g h =
      let q : P lowest × All P (order_from x (suc lowest) n) = between-All P lowest (set_ones x (suc lowest) n) (clear_ones x (suc lowest) n) (rw (order-more x lowest n) at p) in
      by_test (eqb i lowest)
      (λ e. rw (eqb-true i lowest e) q.0)
      (λ e. each_from P n (suc lowest) q.1 i (omega (arith, eqb-false i lowest e)) (omega arith))

  once-from : (n lowest i : ℕ) → lowest ≤ i → i < lowest + n → length (select (eqb i) (order_from x lowest n)) ≡ 1
  once-from zero lowest i g h = absurd (omega arith)
  once-from (suc n) lowest i g h =
      let none : i ≡ lowest → length (select (eqb i) (order_from x (suc lowest) n)) ≡ 0 =
      λ e. select-none (eqb i) (order_from x (suc lowest) n)
      (All-imp (Within (suc lowest) n) (λ j. eqb i j ≡ false) (λ j w. ne_eqb i j (omega arith)) (order_from x (suc lowest) n) (within-order x (suc lowest) n)) in
      rw (order-more x lowest n) (select-between (eqb i) lowest (set_ones x (suc lowest) n) (clear_ones x (suc lowest) n)
      ∙ by_test (eqb i lowest)
      (λ e. rw (e, none (eqb-true i lowest e)) refl)
      (λ e. rw e (zero-add _ ∙ once-from n (suc lowest) i (omega (arith, eqb-false i lowest e)) (omega arith))))

module _ (x count : ℕ) (few : count ≤ 256) where
  pub length-order : length (taking_order x count) ≡ count
  length-order = rw (order_is x count) (length_from x count (256 - count))

  pub each-kept : All (λ i. (256 - count ≤ i) × (i < 256)) (taking_order x count)
  each-kept =
      rw (order_is x count)
      (All-imp (Within (256 - count) count) (λ i. (256 - count ≤ i) × (i < 256)) (λ i w. (w.0, omega arith))
      (order_from x (256 - count) count) (within-order x (256 - count) count))

  pub all-kept : (p : ℕ → Bool) → all p (taking_order x count) ≡ true → (i : ℕ) → 256 - count ≤ i → i < 256 → p i ≡ true
  all-kept p h i g k =
      each_from x (λ i. p i ≡ true) count (256 - count) (all_true p (order_from x (256 - count) count) (rw (order_is x count) at h)) i g (omega arith)

  pub kept_once : (i : ℕ) → 256 - count ≤ i → i < 256 → length (select (eqb i) (taking_order x count)) ≡ 1
  kept_once i g h = rw (order_is x count) (once-from x count (256 - count) i g (omega arith))

  pub kept_only : (i : ℕ) → any (eqb i) (taking_order x count) ≡ true → (256 - count ≤ i) × (i < 256)
  kept_only i = found-All (λ j. (256 - count ≤ j) × (j < 256)) i (taking_order x count) each-kept
