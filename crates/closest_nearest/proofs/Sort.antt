-- Laws of sorting: the result rises, keeps elements with one number in their order, and its front needs only the front of what was sorted.
-- Assumes nothing.
use mathlib.Core.Path.{◌≡◌, refl, sym, ap, ◌∙◌}
use mathlib.Core.Bool.{Bool, true, false}
use mathlib.Core.List.{List, [], ◌∷◌, ◌++◌, map}
use Prim.Native.Nat.{ℕ, zero, suc, ◌≤◌, ◌<◌}
use native.Mathlib.Omega.{arith}
use borrow.Author.Tests.{leb-true, leb-false, lt-leb, eqb-true}
use lib.Dec.{leb, eqb}
use lib.ListN.{length, take, drop, get_or}
use lib.Seq.{take-take}
use Rattle.lists.specs.Lists.{select, before, All, Rising}
use Rattle.lists.proofs.Laws.{by_test, All-imp}
use Rattle.closest_nearest.specs.Sort.{insert_by, insert_all, sort_by}

module _ {A : Type 0} where
  pub All-take : (P : A → Type 0) (n : ℕ) (l : List A) → All P l → All P (take n l)
  All-take P zero l p = tt
  All-take P (suc n) [] p = tt
  All-take P (suc n) (a ∷ l) p = (p.0, All-take P n l p.1)

  pub Rising-take : (R : A → A → Type 0) (n : ℕ) (l : List A) → Rising R l → Rising R (take n l)
  Rising-take R zero l r = tt
  Rising-take R (suc n) [] r = tt
  Rising-take R (suc n) (a ∷ l) r = (All-take (R a) n l r.0, Rising-take R n l r.1)

  All-at : (P : A → Type 0) (l : List A) (i : ℕ) (d : A) → All P l → i < length l → P (get_or l i d)
  All-at P [] i d p h = absurd (omega arith)
  All-at P (a ∷ l) zero d p h = p.0
  All-at P (a ∷ l) (suc i) d p h = All-at P l i d p.1 (omega arith)

  take-cons : (n : ℕ) (b : A) (l : List A) → take n (b ∷ take n l) ≡ take n (b ∷ l)
  take-cons zero b l = refl
  take-cons (suc n) b l = ap (λ m. b ∷ m) (take-take n (suc n) l (omega arith))

module _ {A : Type 0} (f : A → ℕ) where
  -- lowest first
  abbrev pub Sorted : List A → Type 0
  Sorted = Rising (λ a b. f a ≤ f b)

  abbrev pub not_lower : A → A → Bool
  not_lower a b = leb (f a) (f b)

  pub insert-before : (a : A) (l : List A)
      → insert_by f a l ≡ take (length (before (not_lower a) l)) l ++ a ∷ drop (length (before (not_lower a) l)) l
  unfolding insert_by
  insert-before a [] = refl
  insert-before a (b ∷ l) = by_test (leb (f a) (f b)) (λ h. rw h refl) (λ h. rw h (ap (λ m. b ∷ m) (insert-before a l)))

  All-insert : (P : A → Type 0) (a : A) (l : List A) → P a → All P l → All P (insert_by f a l)
  unfolding insert_by
  All-insert P a [] p q = (p, tt)
  All-insert P a (b ∷ l) p q = by_test (leb (f a) (f b)) (λ h. rw h (p, q)) (λ h. rw h (q.0, All-insert P a l p q.1))

  pub sorted_insert : (a : A) (l : List A) → Sorted l → Sorted (insert_by f a l)
  unfolding insert_by
  sorted_insert a [] r = (tt, tt)
  sorted_insert a (b ∷ l) r =
      by_test (leb (f a) (f b))
      (λ h. let le : f a ≤ f b = leb-true (f a) (f b) h in
      rw h ((le, All-imp (λ c. f b ≤ f c) (λ c. f a ≤ f c) (λ c k. omega arith) l r.0), r))
      (λ h. let lt : f b < f a = leb-false (f a) (f b) h in
      rw h (All-insert (λ c. f b ≤ f c) a l (omega arith) r.0, sorted_insert a l r.1))

  pub sorted_all : (l m : List A) → Sorted m → Sorted (insert_all f l m)
  unfolding insert_all
  sorted_all [] m r = r
  sorted_all (a ∷ l) m r = sorted_insert a (insert_all f l m) (sorted_all l m r)

  pub sorted : (l : List A) → Sorted (sort_by f l)
  sorted l = sorted_all l [] tt

  pub insert-append : (l m n : List A) → insert_all f (l ++ m) n ≡ insert_all f l (insert_all f m n)
  unfolding insert_all
  insert-append [] m n = refl
  insert-append (a ∷ l) m n = ap (λ r. insert_by f a r) (insert-append l m n)

  pub All-sort : (P : A → Type 0) (l : List A) → All P l → All P (sort_by f l)
  unfolding insert_all
  All-sort P [] p = tt
  All-sort P (a ∷ l) p = All-insert P a (sort_by f l) p.0 (All-sort P l p.1)

  length-insert : (a : A) (l : List A) → length (insert_by f a l) ≡ suc (length l)
  unfolding insert_by
  length-insert a [] = refl
  length-insert a (b ∷ l) = by_test (leb (f a) (f b)) (λ h. rw h refl) (λ h. rw h (ap suc (length-insert a l)))

  pub length-sort : (l : List A) → length (sort_by f l) ≡ length l
  unfolding insert_all
  length-sort [] = refl
  length-sort (a ∷ l) = length-insert a (sort_by f l) ∙ ap suc (length-sort l)

  -- of each number, the same elements in the same order
  abbrev OfNumber : ℕ → List A → List A
  OfNumber n = select (λ b. eqb (f b) n)

  insert-stable : (n : ℕ) (a : A) (l : List A) → OfNumber n (insert_by f a l) ≡ OfNumber n (a ∷ l)
  unfolding insert_by
  insert-stable n a [] = refl
  insert-stable n a (b ∷ l) =
      by_test (leb (f a) (f b))
      (λ h. rw h refl)
      (λ h. by_test (eqb (f a) n)
      (λ p. by_test (eqb (f b) n)
      (λ q. absurd (omega (arith, leb-false (f a) (f b) h, eqb-true (f a) n p, eqb-true (f b) n q)))
      (λ q. simp (h, q, p, insert-stable n a l)))
      (λ p. by_test (eqb (f b) n) (λ q. simp (h, q, p, insert-stable n a l)) (λ q. simp (h, q, p, insert-stable n a l))))

  pub stable : (n : ℕ) (l : List A) → select (λ b. eqb (f b) n) (sort_by f l) ≡ select (λ b. eqb (f b) n) l
  unfolding insert_all
  stable n [] = refl
  stable n (a ∷ l) =
      insert-stable n a (sort_by f l) ∙ by_test (eqb (f a) n) (λ h. simp (h, stable n l)) (λ h. simp (h, stable n l))

  -- the first n after an insertion need only the first n before it
  pub take-insert : (n : ℕ) (a : A) (l : List A) → take n (insert_by f a (take n l)) ≡ take n (insert_by f a l)
  unfolding insert_by
  take-insert zero a l = refl
  take-insert (suc n) a [] = refl
  take-insert (suc n) a (b ∷ l) =
      by_test (leb (f a) (f b))
      (λ h. rw h (ap (λ m. a ∷ m) (take-cons n b l)))
      (λ h. rw h (ap (λ m. b ∷ m) (take-insert n a l)))

  pub take-insert-all : (n : ℕ) (l m : List A) → take n (insert_all f l (take n m)) ≡ take n (insert_all f l m)
  unfolding insert_all
  take-insert-all n [] m = take-take n n m (omega arith)
  take-insert-all n (a ∷ l) m =
      sym (take-insert n a (insert_all f l (take n m)))
      ∙ ap (λ r. take n (insert_by f a r)) (take-insert-all n l m)
      ∙ take-insert n a (insert_all f l m)

  -- ---- the place of an element, looked for from the end of a sorted list

  pub first-place : (a : A) (l : List A) (d : A) → ((i : ℕ) → i < length l → not_lower a (get_or l i d) ≡ true) → length (before (not_lower a) l) ≡ 0
  first-place a [] d h = refl
  first-place a (b ∷ l) d h = rw (h 0 (omega arith)) refl

  pub place_after : (a : A) (l : List A) (j : ℕ) (d : A) → Sorted l → j < length l → not_lower a (get_or l j d) ≡ false
      → ((i : ℕ) → j < i → i < length l → not_lower a (get_or l i d) ≡ true) → length (before (not_lower a) l) ≡ suc j
  place_after a [] j d r k h g = absurd (omega arith)
  place_after a (b ∷ l) zero d r k h g = rw h (ap suc (first-place a l d (λ i p. g (suc i) (omega arith) (omega arith))))
  place_after a (b ∷ l) (suc j) d r k h g =
      let le : f b ≤ f (get_or l j d) = All-at (λ c. f b ≤ f c) l j d r.0 (omega arith) in
      let lower : leb (f a) (f b) ≡ false = lt-leb (f a) (f b) (omega (arith, leb-false (f a) (f (get_or l j d)) h)) in
      rw lower (ap suc (place_after a l j d r.1 (omega arith) h (λ i p q. g (suc i) (omega arith) (omega arith))))

-- ---- sorting after a change of the elements that keeps their numbers

module _ {A B : Type 0} (h : A → B) where
  pub map-take : (n : ℕ) (l : List A) → map h (take n l) ≡ take n (map h l)
  map-take zero l = refl
  map-take (suc n) [] = refl
  map-take (suc n) (a ∷ l) = ap (λ m. h a ∷ m) (map-take n l)

module _ {A B : Type 0} (f : A → ℕ) (g : B → ℕ) (h : A → B) where
  abbrev Kept : A → Type 0
  Kept a = f a ≡ g (h a)

  insert-map : (a : A) (l : List A) → Kept a → All Kept l → map h (insert_by f a l) ≡ insert_by g (h a) (map h l)
  unfolding insert_by
  insert-map a [] e p = refl
  insert-map a (b ∷ l) e p =
      let same : leb (f a) (f b) ≡ leb (g (h a)) (g (h b)) = cc (e, p.0) in
      by_test (leb (f a) (f b))
      (λ t. rw (t, sym same ∙ t) refl)
      (λ t. rw (t, sym same ∙ t) (ap (λ m. h b ∷ m) (insert-map a l e p.1)))

  pub sort-map : (l : List A) → All (λ a. f a ≡ g (h a)) l → map h (sort_by f l) ≡ sort_by g (map h l)
  unfolding insert_all
  sort-map [] p = refl
  sort-map (a ∷ l) p = insert-map a (sort_by f l) p.0 (All-sort f Kept l p.1) ∙ ap (insert_by g (h a)) (sort-map l p.1)
