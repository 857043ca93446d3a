-- The order over the numbers from any lowest on: a lowest number more goes between the set and the clear ones, whichever it is.
-- Assumes nothing.
use Prim.Native.Nat.{ℕ, zero, suc, ◌+◌, ◌-◌, ◌≤◌, ◌<◌}
use mathlib.Core.Path.{◌≡◌, refl, ap}
use mathlib.Core.Bool.{Bool, true, false, not}
use mathlib.Core.List.{List, [], ◌∷◌, ◌++◌, append-nil}
use native.Mathlib.Omega.{arith}
use lib.ListN.{length}
use lib.Seq.{append_snoc}
use Rattle.lists.specs.Lists.{select, All, Rising}
use Rattle.lists.proofs.Laws.{by_test, select-append, All-append, All-select, All-imp}
use Rattle.closest_order.specs.Taking.{is_set, rising, falling, taking_order}

falling_last : (lowest n : ℕ) → falling lowest (suc n) ≡ falling (suc lowest) n ++ (lowest ∷ [])
unfolding falling
falling_last lowest zero = ap (λ i. i ∷ []) (omega arith)
falling_last lowest (suc n) =
    let e : lowest + suc n ≡ suc lowest + n = omega arith in
    rw (e, falling_last lowest n) refl

-- ---- an element more between two lists

module _ {A : Type 0} where
  pub length-between : (a : A) (l m : List A) → length (l ++ a ∷ m) ≡ suc (length (l ++ m))
  length-between a [] m = refl
  length-between a (b ∷ l) m = ap suc (length-between a l m)

  pub All-between : (P : A → Type 0) (a : A) (l m : List A) → P a → All P (l ++ m) → All P (l ++ a ∷ m)
  All-between P a [] m p q = (p, q)
  All-between P a (b ∷ l) m p q = (q.0, All-between P a l m p q.1)

  pub between-All : (P : A → Type 0) (a : A) (l m : List A) → All P (l ++ a ∷ m) → P a × All P (l ++ m)
  between-All P a [] m p = p
  between-All P a (b ∷ l) m p = let q = between-All P a l m p.1 in (q.0, (p.0, q.1))

  pub Rising-between : (R : A → A → Type 0) (a : A) (l m : List A) → All (λ b. R b a) l → All (R a) m → Rising R (l ++ m) → Rising R (l ++ a ∷ m)
  Rising-between R a [] m p q r = (q, r)
  Rising-between R a (b ∷ l) m p q r = (All-between (R b) a l m p.0 r.0, Rising-between R a l m p.1 q r.1)

  pub select-between : (q : A → Bool) (a : A) (l m : List A) → length (select q (l ++ a ∷ m)) ≡ length (select q (a ∷ [])) + length (select q (l ++ m))
  select-between q a [] m = by_test (q a) (λ h. rw h (omega arith)) (λ h. rw h (omega arith))
  select-between q a (b ∷ l) m =
      by_test (q b) (λ h. rw h (omega (arith, select-between q a l m))) (λ h. rw h (select-between q a l m))

  All-selected : (P : A → Type 0) (q : A → Bool) (l : List A) → All P l → All (λ a. (q a ≡ true) × P a) (select q l)
  All-selected P q [] p = tt
  All-selected P q (a ∷ l) p =
      by_test (q a) (λ h. rw h ((h, p.0), All-selected P q l p.1)) (λ h. rw h (All-selected P q l p.1))

-- ---- between which numbers they lie

abbrev pub Within : ℕ → ℕ → ℕ → Type 0
Within lowest n i = (lowest ≤ i) × (i < lowest + n)

within-rising : (lowest n : ℕ) → All (Within lowest n) (rising lowest n)
unfolding rising
within-rising lowest zero = tt
within-rising lowest (suc n) =
    ((omega arith, omega arith), All-imp (Within (suc lowest) n) (Within lowest (suc n)) (λ i w. (omega arith, omega arith)) (rising (suc lowest) n) (within-rising (suc lowest) n))

within-falling : (lowest n : ℕ) → All (Within lowest n) (falling lowest n)
unfolding falling
within-falling lowest zero = tt
within-falling lowest (suc n) =
    ((omega arith, omega arith), All-imp (Within lowest n) (Within lowest (suc n)) (λ i w. (w.0, omega arith)) (falling lowest n) (within-falling lowest n))

-- ---- the order

module _ (x : ℕ) where
  abbrev pub set_ones : ℕ → ℕ → List ℕ
  set_ones lowest n = select (λ i. is_set i x) (falling lowest n)

  abbrev pub clear_ones : ℕ → ℕ → List ℕ
  clear_ones lowest n = select (λ i. not (is_set i x)) (rising lowest n)

  abbrev pub order_from : ℕ → ℕ → List ℕ
  order_from lowest n = set_ones lowest n ++ clear_ones lowest n

  pub order_is : (count : ℕ) → taking_order x count ≡ order_from (256 - count) count
  unfolding taking_order
  order_is count = refl

  -- a set one is the last of the set ones, a clear one the first of the clear ones
  pub more-set : (lowest n : ℕ) → is_set lowest x ≡ true
      → (set_ones lowest (suc n) ≡ set_ones (suc lowest) n ++ (lowest ∷ [])) × (clear_ones lowest (suc n) ≡ clear_ones (suc lowest) n)
  unfolding rising
  more-set lowest n e =
      (rw (falling_last lowest n, select-append (λ i. is_set i x) (falling (suc lowest) n) (lowest ∷ []), e) refl, rw e refl)

  pub more-clear : (lowest n : ℕ) → is_set lowest x ≡ false
      → (set_ones lowest (suc n) ≡ set_ones (suc lowest) n) × (clear_ones lowest (suc n) ≡ lowest ∷ clear_ones (suc lowest) n)
  unfolding rising
  more-clear lowest n e =
      (rw (falling_last lowest n, select-append (λ i. is_set i x) (falling (suc lowest) n) (lowest ∷ []), e, append-nil (set_ones (suc lowest) n)) refl, rw e refl)

  pub order-more : (lowest n : ℕ) → order_from lowest (suc n) ≡ set_ones (suc lowest) n ++ lowest ∷ clear_ones (suc lowest) n
  order-more lowest n =
      by_test (is_set lowest x)
      (λ e. let m = more-set lowest n e in rw (m.0, m.1) (append_snoc (set_ones (suc lowest) n) lowest (clear_ones (suc lowest) n)))
      (λ e. let m = more-clear lowest n e in rw (m.0, m.1) refl)

  pub within-set : (lowest n : ℕ) → All (λ i. (is_set i x ≡ true) × Within lowest n i) (set_ones lowest n)
  within-set lowest n = All-selected (Within lowest n) (λ i. is_set i x) (falling lowest n) (within-falling lowest n)

  pub within-clear : (lowest n : ℕ) → All (λ i. (not (is_set i x) ≡ true) × Within lowest n i) (clear_ones lowest n)
  within-clear lowest n = All-selected (Within lowest n) (λ i. not (is_set i x)) (rising lowest n) (within-rising lowest n)

  pub within-order : (lowest n : ℕ) → All (Within lowest n) (order_from lowest n)
  within-order lowest n =
      All-append (Within lowest n) (set_ones lowest n) (clear_ones lowest n)
      (All-select (Within lowest n) (λ i. is_set i x) (falling lowest n) (within-falling lowest n))
      (All-select (Within lowest n) (λ i. not (is_set i x)) (rising lowest n) (within-rising lowest n))
