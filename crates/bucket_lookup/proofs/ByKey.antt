-- The entries of one key in lists of distinct keys: there is none, or one, at an index. Assumes nothing.
use mathlib.Core.Path.{◌≡◌, refl, sym, ap, ◌∙◌}
use mathlib.Core.Bool.{Bool, true, false, not, ◌||◌}
use mathlib.Core.List.{List, [], ◌∷◌, ◌++◌}
use Prim.Native.Nat.{ℕ, suc, ◌+◌, ◌≤◌, ◌<◌}
use native.Mathlib.Omega.{arith}
use borrow.Author.Tests.{ltb-true, ltb-false, not-true}
use lib.Dec.{ltb}
use lib.ListN.{length, get_or, set, take, drop}
use Rattle.octets.specs.Octets.{Bytes}
use Rattle.octets.proofs.Laws.{same_eq}
use Rattle.lists.specs.Lists.{any}
use Rattle.lists.proofs.Laws.{by_test, and_left, and_right}
use Rattle.entry.specs.declared.Entry.{Entry}
use Rattle.bucket_model.specs.Contents.{Contents}
use Rattle.bucket_model.specs.Rules.{is_of, of_key, without, update}
use Rattle.bucket_model.specs.Sound.{distinct}
use Rattle.bucket.specs.declared.Position.TheVariants.{Absent, InEntries, InReplacements}
use Rattle.bucket.specs.Steps.{remove_at, index_of, position_of}

-- ---- distinct keys of two lists

or_left : (a b : Bool) → (a || b) ≡ false → a ≡ false
or_left true b h = h
or_left false b h = refl

or_right : (a b : Bool) → (a || b) ≡ false → b ≡ false
or_right true b h = cc
or_right false b h = h

any_left : {A : Type 0} (q : A → Bool) (xs ys : List A) → any q (xs ++ ys) ≡ false → any q xs ≡ false
any_left q [] ys h = refl
any_left q (x ∷ xs) ys h = rw (or_left (q x) (any q (xs ++ ys)) h) (any_left q xs ys (or_right (q x) (any q (xs ++ ys)) h))

any_right : {A : Type 0} (q : A → Bool) (xs ys : List A) → any q (xs ++ ys) ≡ false → any q ys ≡ false
any_right q [] ys h = h
any_right q (x ∷ xs) ys h = any_right q xs ys (or_right (q x) (any q (xs ++ ys)) h)

distinct-left : (xs ys : List Entry) → distinct (xs ++ ys) ≡ true → distinct xs ≡ true
unfolding distinct
distinct-left [] ys h = refl
distinct-left (x ∷ xs) ys h =
    let none : any (is_of x.key) (xs ++ ys) ≡ false = not-true _ (and_left (not (any (is_of x.key) (xs ++ ys))) (distinct (xs ++ ys)) h) in
    rw (any_left (is_of x.key) xs ys none)
    (distinct-left xs ys (and_right (not (any (is_of x.key) (xs ++ ys))) (distinct (xs ++ ys)) h))

distinct_right : (xs ys : List Entry) → distinct (xs ++ ys) ≡ true → distinct ys ≡ true
unfolding distinct
distinct_right [] ys h = h
distinct_right (x ∷ xs) ys h = distinct_right xs ys (and_right (not (any (is_of x.key) (xs ++ ys))) (distinct (xs ++ ys)) h)

remove_next : {A : Type 0} (i : ℕ) (a : A) (l : List A) → remove_at (suc i) (a ∷ l) ≡ a ∷ remove_at i l
remove_next i a l = let e : suc i + 1 ≡ suc (i + 1) = omega arith in ap (λ n. a ∷ (take i l ++ drop n (a ∷ l))) e

module _ (key : Bytes) where
  -- ---- none has the key

  pub none_of : (l : List Entry) → any (is_of key) l ≡ false → of_key key l ≡ []
  none_of [] h = refl
  none_of (a ∷ l) h = rw (or_left (is_of key a) (any (is_of key) l) h) (none_of l (or_right (is_of key a) (any (is_of key) l) h))

  pub none-without : (l : List Entry) → any (is_of key) l ≡ false → without key l ≡ l
  none-without [] h = refl
  none-without (a ∷ l) h = rw (or_left (is_of key a) (any (is_of key) l) h) (ap (λ t. a ∷ t) (none-without l (or_right (is_of key a) (any (is_of key) l) h)))

  pub none-update : (f : Entry → Entry) (l : List Entry) → any (is_of key) l ≡ false → update key f l ≡ l
  none-update f [] h = refl
  none-update f (a ∷ l) h = rw (or_left (is_of key a) (any (is_of key) l) h) (ap (λ t. a ∷ t) (none-update f l (or_right (is_of key a) (any (is_of key) l) h)))

  index-none : (l : List Entry) → length l ≤ index_of (is_of key) l → any (is_of key) l ≡ false
  index-none [] h = refl
  index-none (a ∷ l) h =
      by_test (is_of key a)
      (λ t. absurd (let z : suc (length l) ≤ 0 = rw t at h in omega arith))
      (λ t. rw t (index-none l (let z : suc (length l) ≤ suc (index_of (is_of key) l) = rw t at h in omega arith)))

  -- ---- one has it

  -- the first element has the key, so no other one has
  only : (a : Entry) (l : List Entry) → is_of key a ≡ true → distinct (a ∷ l) ≡ true → any (is_of key) l ≡ false
  unfolding distinct
  only a l t h =
      let e : a.key ≡ key = sym (same_eq key a.key t) in
      not-true _ (rw e at (and_left (not (any (is_of a.key) l)) (distinct l) h))

  rest : (a : Entry) (l : List Entry) → distinct (a ∷ l) ≡ true → distinct l ≡ true
  unfolding distinct
  rest a l h = and_right (not (any (is_of a.key) l)) (distinct l) h

  pub one_of : (d : Entry) (l : List Entry) → distinct l ≡ true → index_of (is_of key) l < length l → of_key key l ≡ get_or l (index_of (is_of key) l) d ∷ []
  one_of d [] h less = absurd (omega arith)
  one_of d (a ∷ l) h less =
      by_test (is_of key a)
      (λ t. rw t (ap (λ s. a ∷ s) (none_of l (only a l t h))))
      (λ t. rw t (one_of d l (rest a l h) (let z : suc (index_of (is_of key) l) < suc (length l) = rw t at less in omega arith)))

  pub one-without : (l : List Entry) → distinct l ≡ true → index_of (is_of key) l < length l → without key l ≡ remove_at (index_of (is_of key) l) l
  one-without [] h less = absurd (omega arith)
  one-without (a ∷ l) h less =
      by_test (is_of key a)
      (λ t. rw t (none-without l (only a l t h)))
      (λ t.
      let z : suc (index_of (is_of key) l) < suc (length l) = rw t at less in
      rw t (ap (λ s. a ∷ s) (one-without l (rest a l h) (omega arith)) ∙ sym (remove_next (index_of (is_of key) l) a l)))

  pub one-update : (f : Entry → Entry) (d : Entry) (l : List Entry) → distinct l ≡ true → index_of (is_of key) l < length l
      → update key f l ≡ set l (index_of (is_of key) l) (f (get_or l (index_of (is_of key) l) d))
  one-update f d [] h less = absurd (omega arith)
  one-update f d (a ∷ l) h less =
      by_test (is_of key a)
      (λ t. rw t (ap (λ s. f a ∷ s) (none-update f l (only a l t h))))
      (λ t. rw t (ap (λ s. a ∷ s) (one-update f d l (rest a l h) (let z : suc (index_of (is_of key) l) < suc (length l) = rw t at less in omega arith))))

  -- a key of the one list is none of the other's
  across : (xs ys : List Entry) → distinct (xs ++ ys) ≡ true → index_of (is_of key) xs < length xs → any (is_of key) ys ≡ false
  across [] ys h less = absurd (omega arith)
  across (a ∷ xs) ys h less =
      by_test (is_of key a)
      (λ t. any_right (is_of key) xs ys (only a (xs ++ ys) t h))
      (λ t. across xs ys (rest a (xs ++ ys) h) (let z : suc (index_of (is_of key) xs) < suc (length xs) = rw t at less in omega arith))

-- ---- where the key is held

-- in one list, with no other entry of the key
pub record Found (key : Bytes) (l : List Entry) (i : ℕ) : Type 0 where
  pub at : i ≡ index_of (is_of key) l
  pub below : index_of (is_of key) l < length l
  pub keys : distinct l ≡ true

-- a proof by the three positions
pub located : {P : Type 0} (key : Bytes) (m : Contents) → distinct (m.entries ++ m.replacements) ≡ true
    → ((i : ℕ) → position_of key m ≡ InEntries i → Found key m.entries i → any (is_of key) m.replacements ≡ false → P)
    → ((i : ℕ) → position_of key m ≡ InReplacements i → any (is_of key) m.entries ≡ false → Found key m.replacements i → P)
    → (position_of key m ≡ Absent → any (is_of key) m.entries ≡ false → any (is_of key) m.replacements ≡ false → P)
    → P
unfolding position_of
located key m h in_e in_r none =
    let i : ℕ = index_of (is_of key) m.entries in
    let j : ℕ = index_of (is_of key) m.replacements in
    by_test (ltb i (length m.entries))
    (λ t. let below : i < length m.entries = ltb-true _ _ t in
    in_e i (rw t refl) (record { at = refl; below = below; keys = distinct-left m.entries m.replacements h }) (across key m.entries m.replacements h below))
    (λ t. let no : any (is_of key) m.entries ≡ false = index-none key m.entries (ltb-false _ _ t) in
    by_test (ltb j (length m.replacements))
    (λ u. in_r j (rw (t, u) refl) no (record { at = refl; below = ltb-true _ _ u; keys = distinct_right m.entries m.replacements h }))
    (λ u. none (rw (t, u) refl) no (index-none key m.replacements (ltb-false _ _ u))))
