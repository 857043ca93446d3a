-- The first of a list of tests that passes, one test after the other. Assumes nothing.
use mathlib.Core.Path.{◌≡◌, refl, sym, ap, ◌∙◌}
use mathlib.Core.Bool.{Bool, true, false, cond, ◌&&◌}
use mathlib.Core.List.{List, [], ◌∷◌, ◌++◌}
use Prim.Native.Nat.{ℕ, ◌<◌, ◌≤◌}
use native.Mathlib.Omega.{arith}
use borrow.Author.Tests.{lt-ltb, le-ltb, ltb-true, eq-eqb, ne_eqb}
use lib.Dec.{eqb, ltb}
use Rattle.lists.specs.Lists.{first}
use Rattle.lists.proofs.Laws.{by_test, and_left, and_right, numbered}

-- `r` is what the code found of the test `b`, whose number is n; x is the number that the tests after it give
module _ {b r : Bool} (n : ℕ) (e : r ≡ b) where
  pub here : (x : ℕ) → r ≡ true → n ≡ cond b n x
  here x t = sym (rw (sym e ∙ t) refl)

  pub later : {x y : ℕ} → r ≡ false → y ≡ x → y ≡ cond b n x
  later t h = h ∙ sym (rw (sym e ∙ t) refl)

-- a clock against the table's, which is `last`
module _ (n now : ℕ) {last clock : ℕ} (e : last ≡ clock) where
  pub early : (x : ℕ) → now < last → n ≡ cond (ltb now clock) n x
  early x t = here n refl x (rw e at (lt-ltb now last t))

  pub in_time : {x y : ℕ} → last ≤ now → y ≡ x → y ≡ cond (ltb now clock) n x
  in_time t h = later n refl (rw e at (le-ltb now last t)) h

-- ---- a list of tests in two parts

pub first-append : (l m : List (Bool × ℕ)) → numbered l ≡ true → first (l ++ m) ≡ cond (eqb (first l) 0) (first m) (first l)
first-append [] m h = refl
first-append (t ∷ l) m h =
    by_test t.0
    (λ g. rw (g, ne_eqb t.1 0 (positive t.1 (and_left (ltb 0 t.1) (numbered l) h))) refl)
    (λ g. rw g (first-append l m (and_right (ltb 0 t.1) (numbered l) h)))
  where
    positive : (n : ℕ) → ltb 0 n ≡ true → n ≡ 0 → ⊥
    positive n h z = omega (arith, ltb-true 0 n h)

-- ---- an answer by a number: what was refused, or where the number is 0 the rest

module _ {A : Type 0} (refusal : ℕ → A) (rest : A) {n number : ℕ} (e : n ≡ number) where
  pub not-passed : (n ≡ 0 → ⊥) → refusal n ≡ cond (eqb number 0) rest (refusal number)
  not-passed some = ap refusal e ∙ sym (rw (rw e at (ne_eqb n 0 some)) refl)

  pub passed_on : {r : A} → n ≡ 0 → r ≡ rest → r ≡ cond (eqb number 0) rest (refusal number)
  passed_on none er = er ∙ sym (rw (rw e at (eq-eqb n 0 none)) refl)
