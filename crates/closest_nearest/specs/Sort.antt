-- A list sorted by a number of each element, lowest first; elements with the same number keep their order.
use Rattle.std.specs.Prelude.{ℕ, cond, List, [], ◌∷◌, leb, ltb}

module _ {A : Type 0} (f : A → ℕ) where
  -- a before the first element whose number isn't lower
  unfoldable pub insert_by : A → List A → List A
  insert_by a [] = a ∷ []
  insert_by a (b ∷ l) = cond (leb (f a) (f b)) (a ∷ b ∷ l) (b ∷ insert_by a l)

  -- each of a list, the last one first
  unfoldable pub insert_all : List A → List A → List A
  insert_all [] m = m
  insert_all (a ∷ l) m = insert_by a (insert_all l m)

  abbrev pub sort_by : List A → List A
  sort_by l = insert_all l []
