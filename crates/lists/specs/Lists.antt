-- Lists by Boolean tests: choosing, counting, changing one element, and what holds of each element.
use Rattle.std.specs.Prelude.{ℕ, zero, suc, Bool, true, false, cond, ◌&&◌, ◌||◌, List, [], ◌∷◌}

-- the number of the first test that passes, and 0 where none does: "lowest that applies is given"
abbrev pub first : List (Bool × ℕ) → ℕ
first [] = 0
first (t ∷ ts) = cond t.0 t.1 (first ts)

module _ {A : Type 0} where
  -- the elements that pass the test, in order
  abbrev pub select : (A → Bool) → List A → List A
  select q [] = []
  select q (a ∷ l) = cond (q a) (a ∷ select q l) (select q l)

  abbrev pub any : (A → Bool) → List A → Bool
  any q [] = false
  any q (a ∷ l) = q a || any q l

  abbrev pub all : (A → Bool) → List A → Bool
  all q [] = true
  all q (a ∷ l) = q a && all q l

  abbrev pub empty : List A → Bool
  empty [] = true
  empty (a ∷ l) = false

  -- the elements before the first that passes the test
  abbrev pub before : (A → Bool) → List A → List A
  before q [] = []
  before q (a ∷ l) = cond (q a) [] (a ∷ before q l)

  -- the list with f applied to the element at an index
  abbrev pub modify : ℕ → (A → A) → List A → List A
  modify i f [] = []
  modify zero f (a ∷ l) = f a ∷ l
  modify (suc i) f (a ∷ l) = a ∷ modify i f l

  -- P holds of each element
  abbrev pub All : (A → Type 0) → List A → Type 0
  All P [] = Unit {0}
  All P (a ∷ l) = P a × All P l

  -- each element is below all that follow it
  abbrev pub Rising : (A → A → Type 0) → List A → Type 0
  Rising R [] = Unit {0}
  Rising R (a ∷ l) = All (R a) l × Rising R l
