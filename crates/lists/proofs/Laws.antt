-- Laws of the lists of `specs/Lists.antt`.
use Prim.Native.Nat.{ℕ, zero, suc, ◌+◌, ◌<◌, ◌≤◌}
use mathlib.Core.Path.{◌≡◌, refl, ap}
use mathlib.Core.Bool.{Bool, true, false, cond, not, ◌&&◌, ◌||◌}
use mathlib.Core.List.{List, [], ◌∷◌, ◌++◌, map}
use native.Mathlib.Omega.{arith}
use lib.Dec.{ltb}
use lib.ListN.{length, get_or, set}
use Rattle.lists.specs.Lists.{first, select, any, all, empty, before, modify, All, Rising}

-- a proof by the two outcomes of a test, each with the equation to rewrite by
pub by_test : {P : Type 0} (b : Bool) → (b ≡ true → P) → (b ≡ false → P) → P
by_test true f g = f refl
by_test false f g = g refl

-- no test has both outcomes
pub never : {P : Type 0} → true ≡ false → P
never h = absurd (let z : ◌≡◌ {A = ℕ} 0 1 = cc in omega arith)

pub and_left : (a b : Bool) → (a && b) ≡ true → a ≡ true
and_left true b h = refl
and_left false b h = h

pub and_right : (a b : Bool) → (a && b) ≡ true → b ≡ true
and_right true b h = h
and_right false b h = cc

pub or_elim : {P : Type 0} (a b : Bool) → (a || b) ≡ true → (a ≡ true → P) → (b ≡ true → P) → P
or_elim true b h f g = f refl
or_elim false b h f g = g h

-- the tests of a list of refusals, each failed
abbrev pub Passed : List (Bool × ℕ) → Type 0
Passed [] = Unit {0}
Passed (t ∷ ts) = (t.0 ≡ false) × Passed ts

-- no refusal has the number 0
abbrev pub numbered : List (Bool × ℕ) → Bool
numbered [] = true
numbered (t ∷ ts) = ltb 0 t.1 && numbered ts

module _ {A : Type 0} where
  pub select-append : (q : A → Bool) (l m : List A) → select q (l ++ m) ≡ select q l ++ select q m
  select-append q [] m = refl
  select-append q (a ∷ l) m = by_test (q a) (λ h. rw (h, select-append q l m)) (λ h. rw (h, select-append q l m))

  pub select-comm : (q r : A → Bool) (l : List A) → select q (select r l) ≡ select r (select q l)
  select-comm q r [] = refl
  select-comm q r (a ∷ l) =
      by_test (q a)
      (λ h. by_test (r a) (λ g. simp (h, g, select-comm q r l)) (λ g. simp (h, g, select-comm q r l)))
      (λ h. by_test (r a) (λ g. simp (h, g, select-comm q r l)) (λ g. simp (h, g, select-comm q r l)))

  pub length-select : (q : A → Bool) (l : List A) → length (select q l) ≤ length l
  length-select q [] = omega arith
  length-select q (a ∷ l) =
      let ih : length (select q l) ≤ length l = length-select q l in
      by_test (q a) (λ h. rw h (omega arith)) (λ h. rw h (omega arith))

  pub length-split : (q : A → Bool) (l : List A) → length (select (λ a. not (q a)) l) + length (select q l) ≡ length l
  length-split q [] = omega arith
  length-split q (a ∷ l) =
      let ih : length (select (λ a. not (q a)) l) + length (select q l) ≡ length l = length-split q l in
      by_test (q a) (λ h. rw h (omega arith)) (λ h. rw h (omega arith))

  pub All-select : (P : A → Type 0) (q : A → Bool) (l : List A) → All P l → All P (select q l)
  All-select P q [] p = tt
  All-select P q (a ∷ l) p = by_test (q a) (λ h. rw h (p.0, All-select P q l p.1)) (λ h. rw h (All-select P q l p.1))

  pub All-before : (P : A → Type 0) (q : A → Bool) (l : List A) → All P l → All P (before q l)
  All-before P q [] p = tt
  All-before P q (a ∷ l) p = by_test (q a) (λ h. rw h tt) (λ h. rw h (p.0, All-before P q l p.1))

  pub All-append : (P : A → Type 0) (l m : List A) → All P l → All P m → All P (l ++ m)
  All-append P [] m p r = r
  All-append P (a ∷ l) m p r = (p.0, All-append P l m p.1 r)

  pub All-map : (P Q : A → Type 0) (f : A → A) → ((a : A) → P a → Q (f a)) → (l : List A) → All P l → All Q (map f l)
  All-map P Q f h [] p = tt
  All-map P Q f h (a ∷ l) p = (h a p.0, All-map P Q f h l p.1)

  pub All-imp : (P Q : A → Type 0) → ((a : A) → P a → Q a) → (l : List A) → All P l → All Q l
  All-imp P Q h [] p = tt
  All-imp P Q h (a ∷ l) p = (h a p.0, All-imp P Q h l p.1)

  pub All-every : (P : A → Type 0) → ((a : A) → P a) → (l : List A) → All P l
  All-every P h [] = tt
  All-every P h (a ∷ l) = (h a, All-every P h l)

  pub All-none : (P : A → Type 0) (l : List A) → length l ≡ 0 → All P l
  All-none P [] h = tt
  All-none P (a ∷ l) h = absurd (omega arith)

  pub All-left : (P : A → Type 0) (l m : List A) → All P (l ++ m) → All P l
  All-left P [] m p = tt
  All-left P (a ∷ l) m p = (p.0, All-left P l m p.1)

  pub All-right : (P : A → Type 0) (l m : List A) → All P (l ++ m) → All P m
  All-right P [] m p = p
  All-right P (a ∷ l) m p = All-right P l m p.1

  pub All-and : (P Q : A → Type 0) (l : List A) → All P l → All Q l → All (λ a. P a × Q a) l
  All-and P Q [] p r = tt
  All-and P Q (a ∷ l) p r = ((p.0, r.0), All-and P Q l p.1 r.1)

  -- by the index
  pub All-at : (P : A → Type 0) (l : List A) (d : A) → All P l → (i : ℕ) → i < length l → P (get_or l i d)
  All-at P [] d p i h = absurd (omega arith)
  All-at P (a ∷ l) d p zero h = p.0
  All-at P (a ∷ l) d p (suc i) h = All-at P l d p.1 i (omega arith)

  pub at-All : (P : A → Type 0) (l : List A) (d : A) → ((i : ℕ) → i < length l → P (get_or l i d)) → All P l
  at-All P [] d h = tt
  at-All P (a ∷ l) d h = (h 0 (omega arith), at-All P l d (λ i less. h (suc i) (omega arith)))

  -- ---- tests of all and of any

  pub all_true : (q : A → Bool) (l : List A) → all q l ≡ true → All (λ a. q a ≡ true) l
  all_true q [] h = tt
  all_true q (a ∷ l) h = (and_left (q a) (all q l) h, all_true q l (and_right (q a) (all q l) h))

  pub true-all : (q : A → Bool) (l : List A) → All (λ a. q a ≡ true) l → all q l ≡ true
  true-all q [] p = refl
  true-all q (a ∷ l) p = rw p.0 (true-all q l p.1)

  pub any_false : (q : A → Bool) (l : List A) → any q l ≡ false → All (λ a. q a ≡ false) l
  any_false q [] = λ h. tt
  any_false q (a ∷ l) = by_test (q a) (λ g. rw g (λ h. never h)) (λ g. rw g (λ h. (refl, any_false q l h)))

  -- none passes the test where the selection is empty
  pub any_none : (q : A → Bool) (l : List A) → length (select q l) ≡ 0 → any q l ≡ false
  any_none q [] = λ h. refl
  any_none q (a ∷ l) = by_test (q a) (λ g. rw g (λ h. absurd (omega arith))) (λ g. rw g (λ h. any_none q l h))

  pub select-none : (q : A → Bool) (l : List A) → All (λ a. q a ≡ false) l → length (select q l) ≡ 0
  select-none q [] p = refl
  select-none q (a ∷ l) p = rw p.0 (select-none q l p.1)

  pub select-every : (q : A → Bool) (l : List A) → All (λ a. q a ≡ true) l → length (select q l) ≡ length l
  select-every q [] p = refl
  select-every q (a ∷ l) p = rw (p.0, select-every q l p.1)

  -- of a list of which the test leaves something, an element passes it
  pub passing : (P : A → Type 0) (q : A → Bool) (l : List A) → All P l → 0 < length (select q l) → (a : A) × P a × (q a ≡ true)
  passing P q [] = λ p h. absurd (omega arith)
  passing P q (a ∷ l) = by_test (q a) (λ g. λ p h. (a, p.0, g)) (λ g. rw g (λ p h. passing P q l p.1 h))

  -- of a list of which the test leaves nothing, an element fails it
  pub failing : (P : A → Type 0) (q : A → Bool) (l : List A) → All P l → 0 < length l → length (select q l) ≡ 0
      → (a : A) × P a × (q a ≡ false)
  failing P q [] = λ p h n. absurd (omega arith)
  failing P q (a ∷ l) = λ p h. by_test (q a) (λ g. rw g (λ n. absurd (omega arith))) (λ g. λ n. (a, p.0, g))

  -- tests that agree on every element select the same
  pub select-agree : (q r : A → Bool) (l : List A) → All (λ a. q a ≡ r a) l → select q l ≡ select r l
  select-agree q r [] p = refl
  select-agree q r (a ∷ l) p = rw (p.0, select-agree q r l p.1)

  pub empty-append : (l m : List A) → empty (l ++ m) ≡ true → (length l ≡ 0) × (length m ≡ 0)
  empty-append [] [] h = (refl, refl)
  empty-append [] (a ∷ m) h = (refl, cc)
  empty-append (a ∷ l) m h = (cc, cc)

  pub nil : (l : List A) → length l ≡ 0 → l ≡ []
  nil [] h = refl
  nil (a ∷ l) h = absurd (omega arith)

  pub Rising-select : (R : A → A → Type 0) (q : A → Bool) (l : List A) → Rising R l → Rising R (select q l)
  Rising-select R q [] r = tt
  Rising-select R q (a ∷ l) r =
      by_test (q a) (λ h. rw h (All-select (R a) q l r.0, Rising-select R q l r.1)) (λ h. rw h (Rising-select R q l r.1))

  pub Rising-snoc : (R : A → A → Type 0) (x : A) (l : List A) → All (λ a. R a x) l → Rising R l → Rising R (l ++ (x ∷ []))
  Rising-snoc R x [] p r = (tt, tt)
  Rising-snoc R x (a ∷ l) p r = (All-append (R a) l (x ∷ []) r.0 (p.0, tt), Rising-snoc R x l p.1 r.1)

  pub Rising-map : (R : A → A → Type 0) (f : A → A) → ((a b : A) → R a b → R (f a) (f b)) → (l : List A) → Rising R l → Rising R (map f l)
  Rising-map R f h [] r = tt
  Rising-map R f h (a ∷ l) r = (All-map (R a) (R (f a)) f (h a) l r.0, Rising-map R f h l r.1)

  -- R changes to S on the elements that P holds of
  module _ (R S : A → A → Type 0) (P : A → Type 0) (h : (a b : A) → P a → P b → R a b → S a b) where
    below-imp : (a : A) → P a → (m : List A) → All P m → All (R a) m → All (S a) m
    below-imp a p [] u v = tt
    below-imp a p (b ∷ m) u v = (h a b p u.0 v.0, below-imp a p m u.1 v.1)

    pub Rising-imp : (l : List A) → All P l → Rising R l → Rising S l
    Rising-imp [] p r = tt
    Rising-imp (a ∷ l) p r = (below-imp a p.0 l p.1 r.0, Rising-imp l p.1 r.1)

  pub length-modify : (i : ℕ) (f : A → A) (l : List A) → length (modify i f l) ≡ length l
  length-modify i f [] = refl
  length-modify zero f (a ∷ l) = refl
  length-modify (suc i) f (a ∷ l) = ap suc (length-modify i f l)

  pub get_d_modify_same : (i : ℕ) (f : A → A) (l : List A) (d : A) → i < length l → get_or (modify i f l) i d ≡ f (get_or l i d)
  get_d_modify_same i f [] d h = absurd (omega arith)
  get_d_modify_same zero f (a ∷ l) d h = refl
  get_d_modify_same (suc i) f (a ∷ l) d h = get_d_modify_same i f l d (omega arith)

  pub get_d_modify_other : (i j : ℕ) (f : A → A) (l : List A) (d : A) → (i ≡ j → ⊥) → get_or (modify j f l) i d ≡ get_or l i d
  get_d_modify_other i j f [] d h = refl
  get_d_modify_other zero zero f (a ∷ l) d h = absurd (h refl)
  get_d_modify_other zero (suc j) f (a ∷ l) d h = refl
  get_d_modify_other (suc i) zero f (a ∷ l) d h = refl
  get_d_modify_other (suc i) (suc j) f (a ∷ l) d h = get_d_modify_other i j f l d (λ g. h (ap suc g))

  -- the element stored over the one at an index
  pub set-modify : (i : ℕ) (f : A → A) (l : List A) (d : A) → i < length l → set l i (f (get_or l i d)) ≡ modify i f l
  set-modify i f [] d h = absurd (omega arith)
  set-modify zero f (a ∷ l) d h = refl
  set-modify (suc i) f (a ∷ l) d h = ap (λ m. a ∷ m) (set-modify i f l d (omega arith))

  pub get_d_map : (f : A → A) (l : List A) (i : ℕ) (d : A) → i < length l → get_or (map f l) i d ≡ f (get_or l i d)
  get_d_map f [] i d h = absurd (omega arith)
  get_d_map f (a ∷ l) zero d h = refl
  get_d_map f (a ∷ l) (suc i) d h = get_d_map f l i d (omega arith)

passed_one : (b : Bool) (n m : ℕ) → 0 < n → cond b n m ≡ 0 → (b ≡ false) × (m ≡ 0)
passed_one true n m p h = absurd (omega arith)
passed_one false n m p h = (refl, h)

-- an answer 0: every test failed
pub passed : (l : List (Bool × ℕ)) → numbered l ≡ true → first l ≡ 0 → Passed l
passed [] n h = tt
passed (t ∷ ts) n h =
    let one : (t.0 ≡ false) × (first ts ≡ 0) =
    passed_one t.0 t.1 (first ts) (borrow.Author.Tests.ltb-true 0 t.1 (and_left (ltb 0 t.1) (numbered ts) n)) h in
    (one.0, passed ts (and_right (ltb 0 t.1) (numbered ts) n) one.1)
