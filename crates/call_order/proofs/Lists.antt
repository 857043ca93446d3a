-- From two calls to two merges: where calls of different buckets at one millisecond come out alike in either order, so do two merges.
use Prim.Native.Nat.{ℕ}
use mathlib.Core.Path.{◌≡◌, refl, ap, sym, ◌∙◌}
use mathlib.Core.Bool.{Bool, true, false}
use mathlib.Core.List.{List, [], ◌∷◌, ◌++◌, append_assoc}
use borrow.Author.Tests.{eqb-true, eq-eqb}
use lib.Dec.{eqb}
use Rattle.lists.specs.Lists.{select, All}
use Rattle.lists.proofs.Laws.{by_test, never, and_right, select-append, All-append, All-left, All-right, All-and}
use Rattle.call_history.specs.Model.{Env, Call, slot}
use Rattle.call_order.specs.Order.{key_of, has_bucket, is_of_bucket, Apart, InStretch, Merges, done, same, stretch, after, EitherWay, EndAlike}

-- ---- the bucket of a call

module _ (e : Env) where
  abbrev pub slot_of : Call → ℕ
  slot_of c = slot e (key_of c)

  slot_is : (i : ℕ) (c : Call) → is_of_bucket e i c ≡ true → slot_of c ≡ i
  slot_is i c h = eqb-true (slot_of c) i (and_right (has_bucket e c) (eqb (slot_of c) i) h)

  at_slot : (i : ℕ) (c : Call) → has_bucket e c ≡ true → slot_of c ≡ i → is_of_bucket e i c ≡ true
  at_slot i c h g = rw h (eq-eqb (slot_of c) i g)

  pub other-slot : (c d : Call) → has_bucket e c ≡ true → has_bucket e d ≡ true → Apart e c d → slot_of c ≡ slot_of d → ⊥
  other-slot c d has-c has-d apart h = apart (slot_of c) (at_slot (slot_of c) c has-c refl) (at_slot (slot_of c) d has-d (sym h))

-- ---- the first element of a list that passes a test

module _ {A : Type 0} (q : A → Bool) where
  pub record FirstAt (a : A) (more l : List A) : Type 0 where
    pub pre : List A
    pub post : List A
    pub is : l ≡ pre ++ (a ∷ post)
    pub none : select q pre ≡ []
    pub rest : select q post ≡ more

  first-at : (a : A) (more l : List A) → select q l ≡ a ∷ more → FirstAt a more l
  first-at a more [] = λ h. never (let y : true ≡ false = cc in y)
  first-at a more (b ∷ l) =
      by_test (q b)
      (λ g. rw g (λ h. record { pre = []; post = l; is = let z : b ≡ a = cc in ap (λ c. c ∷ l) z; none = refl; rest = cc }))
      (λ g. rw g (λ h.
      let found = first-at a more l h in
      record { pre = b ∷ found.pre; post = found.post; is = ap (λ m. b ∷ m) found.is; none = rw g found.none; rest = found.rest }))

-- ---- lists of calls

module _ {S A : Type 0} (told : S → Call → A) (left : S → Call → S) (e : Env) where
  abbrev Alike : S → List Call → List Call → Type 0
  Alike = EndAlike told left e

  alike_refl : (s : S) (cs : List Call) → Alike s cs cs
  alike_refl s cs = record { state = refl; answers = λ i. refl; others = refl }

  alike-sym : (s : S) (cs ds : List Call) → Alike s cs ds → Alike s ds cs
  alike-sym s cs ds h = record { state = sym h.state; answers = λ i. sym (h.answers i); others = sym h.others }

  alike-trans : (s : S) (cs ds fs : List Call) → Alike s cs ds → Alike s ds fs → Alike s cs fs
  alike-trans s cs ds fs h g = record { state = h.state ∙ g.state; answers = λ i. h.answers i ∙ g.answers i; others = h.others ∙ g.others }

  alike-cons : (s : S) (c : Call) (cs ds : List Call) → Alike (left s c) cs ds → Alike s (c ∷ cs) (c ∷ ds)
  alike-cons s c cs ds h = record { state = h.state; answers = λ i. rw (h.answers i) refl; others = rw h.others refl }

  -- two calls of different buckets, and then the same calls
  swap_alike : (s : S) (c d : Call) (rest : List Call) → EitherWay told left s c d → has_bucket e c ≡ true → has_bucket e d ≡ true → Apart e c d
      → Alike s (c ∷ d ∷ rest) (d ∷ c ∷ rest)
  swap_alike s c d rest h has-c has-d apart =
      record {
        state = ap (λ t. after told left t rest) h.state;
        answers = λ i.
            rw (h.state, h.first, h.second)
            (by_test (is_of_bucket e i c)
            (λ f. by_test (is_of_bucket e i d) (λ g. absurd (apart i f g)) (λ g. rw (f, g) refl))
            (λ f. rw f refl));
        others = rw h.state (rw (has-c, has-d) refl);
      }

  -- the two-call law, of states that calls which fit keep
  pub record Commutes (Ok : S → Type 0) (Fit : Call → Type 0) : Type 0 where
    pub kept : (s : S) (c : Call) → Fit c → Ok s → Ok (left s c)
    pub either : (s : S) → Ok s → (t : ℕ) (c d : Call) → Fit c → Fit d → InStretch e t c → InStretch e t d → Apart e c d → EitherWay told left s c d

  module _ (Ok : S → Type 0) (Fit : Call → Type 0) (law : Commutes Ok Fit) where
    abbrev In : ℕ → Call → Type 0
    In t c = Fit c × InStretch e t c

    pub kept-after : (s : S) → Ok s → (cs : List Call) → All Fit cs → Ok (after told left s cs)
    kept-after s ok [] fit = ok
    kept-after s ok (c ∷ cs) fit = kept-after (left s c) (law.kept s c fit.0 ok) cs fit.1

    -- a call moves to the front past calls of other buckets
    moved : (t : ℕ) (x : Call) (pre rest : List Call) (s : S) → Ok s → In t x → All (In t) pre
        → select (is_of_bucket e (slot_of e x)) pre ≡ [] → Alike s (pre ++ (x ∷ rest)) (x ∷ (pre ++ rest))
    moved t x [] rest s ok in_x in_pre = λ none. alike_refl s (x ∷ rest)
    moved t x (p ∷ pre) rest s ok in_x in_pre =
        by_test (is_of_bucket e (slot_of e x) p)
        (λ g. rw g (λ none. never (let y : true ≡ false = cc in y)))
        (λ g. rw g (λ none.
        let in_p = in_pre.0 in
        let apart : Apart e p x = λ j f h. never (sym (rw (sym (slot_is e j x h)) at f) ∙ g) in
        alike-trans s (p ∷ (pre ++ (x ∷ rest))) (p ∷ x ∷ (pre ++ rest)) (x ∷ p ∷ (pre ++ rest))
        (alike-cons s p (pre ++ (x ∷ rest)) (x ∷ (pre ++ rest)) (moved t x pre rest (left s p) (law.kept s p in_p.0 ok) in_x in_pre.1 none))
        (swap_alike s p x (pre ++ rest) (law.either s ok t p x in_p.0 in_x.0 in_p.1 in_x.1 apart) in_p.1.1 in_x.1.1 apart)))

    -- two merges of one stretch
    merged : (t : ℕ) (xs ys rest : List Call) (s : S) → Ok s → All (In t) xs → All (In t) ys
        → ((i : ℕ) → select (is_of_bucket e i) xs ≡ select (is_of_bucket e i) ys) → Alike s (xs ++ rest) (ys ++ rest)
    merged t [] [] rest s ok in-xs in_ys own = alike_refl s rest
    merged t [] (y ∷ ys) rest s ok in-xs in_ys own =
        let h : [] ≡ y ∷ select (is_of_bucket e (slot_of e y)) ys = rw (at_slot e (slot_of e y) y in_ys.0.1.1 refl) at (own (slot_of e y)) in
        never (let z : true ≡ false = cc in z)
    merged t (x ∷ xs) ys rest s ok in-xs in_ys own =
        let i = slot_of e x in
        let in_x = in-xs.0 in
        let is : is_of_bucket e i x ≡ true = at_slot e i x in_x.1.1 refl in
        let found : select (is_of_bucket e i) ys ≡ x ∷ select (is_of_bucket e i) xs = sym (own i) ∙ rw is refl in
        let f = first-at (is_of_bucket e i) x (select (is_of_bucket e i) xs) ys found in
        let parts : All (In t) (f.pre ++ (x ∷ f.post)) = rw f.is at in_ys in
        let in_pre = All-left (In t) f.pre (x ∷ f.post) parts in
        let in_post = (All-right (In t) f.pre (x ∷ f.post) parts).1 in
        let own' : (j : ℕ) → select (is_of_bucket e j) xs ≡ select (is_of_bucket e j) (f.pre ++ f.post) =
        λ j.
        let eq : select (is_of_bucket e j) (x ∷ xs) ≡ select (is_of_bucket e j) (f.pre ++ (x ∷ f.post)) = rw f.is at (own j) in
        by_test (is_of_bucket e j x)
        (λ g. rw (← slot_is e j x g, select-append) (rw (f.none, f.rest) refl))
        (λ g. let eq' = rw (g, select-append, g) at eq in rw select-append eq') in
        let more = merged t xs (f.pre ++ f.post) rest (left s x) (law.kept s x in_x.0 ok) in-xs.1 (All-append (In t) f.pre f.post in_pre in_post) own' in
        rw (f.is, append_assoc)
        (alike-trans s (x ∷ (xs ++ rest)) (x ∷ (f.pre ++ (f.post ++ rest))) (f.pre ++ (x ∷ (f.post ++ rest)))
        (alike-cons s x (xs ++ rest) (f.pre ++ (f.post ++ rest)) (rw append_assoc at more))
        (alike-sym s (f.pre ++ (x ∷ (f.post ++ rest))) (x ∷ (f.pre ++ (f.post ++ rest)))
        (moved t x f.pre (f.post ++ rest) s ok in_x in_pre f.none)))

    alike-prefix : (s : S) → Ok s → (xs cs ds : List Call) → All Fit xs → ((s : S) → Ok s → Alike s cs ds) → Alike s (xs ++ cs) (xs ++ ds)
    alike-prefix s ok [] cs ds fit h = h s ok
    alike-prefix s ok (x ∷ xs) cs ds fit h =
        alike-cons s x (xs ++ cs) (xs ++ ds) (alike-prefix (left s x) (law.kept s x fit.0 ok) xs cs ds fit.1 h)

    pub merges-alike : {cs ds : List Call} → Merges e cs ds → All Fit cs → All Fit ds → (s : S) → Ok s → Alike s cs ds
    merges-alike done fit-cs fit-ds s ok = alike_refl s []
    merges-alike (same c {cs = cs} {ds = ds} m) fit-cs fit-ds s ok =
        alike-cons s c cs ds (merges-alike m fit-cs.1 fit-ds.1 (left s c) (law.kept s c fit-cs.0 ok))
    merges-alike (stretch t xs ys {cs = cs} {ds = ds} in-xs in_ys own m) fit-cs fit-ds s ok =
        let fit_xs = All-left Fit xs cs fit-cs in
        let fit_ys = All-left Fit ys ds fit-ds in
        let more : (s' : S) → Ok s' → Alike s' cs ds =
        λ s' ok'. merges-alike m (All-right Fit xs cs fit-cs) (All-right Fit ys ds fit-ds) s' ok' in
        alike-trans s (xs ++ cs) (xs ++ ds) (ys ++ ds)
        (alike-prefix s ok xs cs ds fit_xs more)
        (merged t xs ys ds s ok (All-and Fit (InStretch e t) xs fit_xs in-xs) (All-and Fit (InStretch e t) ys fit_ys in_ys) own)
