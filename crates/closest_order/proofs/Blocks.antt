-- Sorting where what is put in lies strictly between two lists: it stands sorted between them. Assumes nothing.
use Prim.Native.Nat.{ℕ, ◌<◌}
use mathlib.Core.Path.{◌≡◌, refl, ap, ◌∙◌}
use mathlib.Core.List.{List, [], ◌∷◌, ◌++◌}
use native.Mathlib.Omega.{arith}
use borrow.Author.Tests.{le-leb, lt-leb}
use lib.Dec.{leb}
use Rattle.lists.specs.Lists.{All}
use Rattle.lists.proofs.Laws.{by_test}
use Rattle.closest_nearest.specs.Sort.{insert_by, insert_all, sort_by}

module _ {A : Type 0} (f : A → ℕ) where
  -- an element that is below all of m goes into l, one above all of l goes into m
  insert-left : (a : A) (l m : List A) → All (λ b. f a < f b) m → insert_by f a (l ++ m) ≡ insert_by f a l ++ m
  unfolding insert_by
  insert-left a [] [] h = refl
  insert-left a [] (b ∷ m) h = rw (le-leb (f a) (f b) (omega (arith, h.0))) refl
  insert-left a (b ∷ l) m h = by_test (leb (f a) (f b)) (λ e. rw e refl) (λ e. rw e (ap (λ r. b ∷ r) (insert-left a l m h)))

  insert-right : (a : A) (l m : List A) → All (λ b. f b < f a) l → insert_by f a (l ++ m) ≡ l ++ insert_by f a m
  unfolding insert_by
  insert-right a [] m h = refl
  insert-right a (b ∷ l) m h = rw (lt-leb (f a) (f b) h.0) (ap (λ r. b ∷ r) (insert-right a l m h.1))

  pub insert-between : (bs l m : List A) → All (λ b. All (λ c. f c < f b) l) bs → All (λ b. All (λ c. f b < f c) m) bs
      → insert_all f bs (l ++ m) ≡ l ++ (sort_by f bs ++ m)
  unfolding insert_all
  insert-between [] l m p q = refl
  insert-between (b ∷ bs) l m p q =
      ap (insert_by f b) (insert-between bs l m p.1 q.1)
      ∙ insert-right b l (sort_by f bs ++ m) p.0
      ∙ ap (λ r. l ++ r) (insert-left b (sort_by f bs) m q.0)
