-- The place of a hash among the nearest, and what is held once it is put there. Assumes nothing.
use mathlib.Core.Path.{◌≡◌, sym, ap, ◌∙◌}
use mathlib.Core.Bool.{Bool, true, false}
use mathlib.Core.List.{List, [], ◌∷◌, ◌++◌}
use Prim.Native.Nat.{ℕ, suc, ◌+◌, ◌-◌, ◌≤◌, ◌<◌, min}
use native.Mathlib.Omega.{arith}
use borrow.Author.Tests.{eqb-true, eqb-false}
use lib.Dec.{leb, eqb}
use lib.ListN.{length, take, drop, get_or, replicate, length-append, length-take, length-drop}
use lib.Seq.{length-take-le, get_or-take, take_at, take_all}
use Rattle.octets.specs.Octets.{Bytes, number}
use Rattle.lists.specs.Lists.{before}
use Rattle.lists.proofs.Laws.{by_test}
use Rattle.closest_nearest.specs.declared.Near.{Near}
use Rattle.closest_nearest.specs.declared.Nearest.{Nearest}
use Rattle.closest_nearest.specs.Sort.{insert_by}
use Rattle.closest_nearest.specs.Nearest.{no_near, farness, holding, held, Ordered}
use Rattle.closest_nearest.proofs.Sort.{not_lower, first-place, place_after, insert-before}
use Rattle.closest_nearest.proofs.Shift.{put-filled}

length_before : {A : Type 0} (q : A → Bool) (l : List A) → length (before q l) ≤ length l
length_before q [] = omega arith
length_before q (a ∷ l) = by_test (q a) (λ h. rw h (omega arith)) (λ h. rw h (omega (arith, length_before q l)))

-- what a read past the end of an array gives
abbrev pub nowhere : Near
nowhere = record { slot = 0; index = 0; far = [] }

-- the element at an index is at least as far as x
abbrev pub IsBehind : Bytes → Nearest → ℕ → Type 0
IsBehind far n j = leb (number far) (farness (get_or n.list j nowhere)) ≡ true

-- all from k on are
abbrev pub Behind : Bytes → Nearest → ℕ → Type 0
Behind far n k = (j : ℕ) → k ≤ j → j < n.count → IsBehind far n j

module _ (n : Nearest) (x : Near) (o : Ordered n) (size : length n.list ≡ 16) where
  count_held : length (held n) ≡ n.count
  count_held = length-take-le n.count n.list (omega (arith, o.few))

  at_held : (j : ℕ) → j < n.count → get_or (held n) j nowhere ≡ get_or n.list j nowhere
  at_held j h = get_or-take n.count n.list j nowhere h

  behind-held : (k : ℕ) → Behind x.far n k → (j : ℕ) → k ≤ j → j < length (held n)
      → not_lower farness x (get_or (held n) j nowhere) ≡ true
  behind-held k b j h l =
      let l' : j < n.count = omega (arith, count_held) in
      rw (at_held j l') (b j h l')

  pub place_found : (k : ℕ) → 0 < k → k ≤ n.count
      → leb (farness x) (farness (get_or n.list (k - 1) nowhere)) ≡ false
      → Behind x.far n k → k ≡ length (before (not_lower farness x) (held n))
  place_found k h l e b =
      let near : not_lower farness x (get_or (held n) (k - 1) nowhere) ≡ false = rw (at_held (k - 1) (omega arith)) e in
      let after : length (before (not_lower farness x) (held n)) ≡ suc (k - 1) =
      place_after farness x (held n) (k - 1) nowhere o.rising (omega (arith, count_held)) near
      (λ i p q. behind-held k b i (omega arith) q) in
      omega arith

  pub place-first : Behind x.far n 0 → 0 ≡ length (before (not_lower farness x) (held n))
  place-first b = sym (first-place farness x (held n) nowhere (λ i q. behind-held 0 b i (omega arith) q))

-- one more behind
pub behind_more : (far : Bytes) (n : Nearest) (k : ℕ) → Behind far n k → IsBehind far n (k - 1) → Behind far n (k - 1)
behind_more far n k b h j p q =
    by_test (eqb j (k - 1)) (λ e. rw (eqb-true j (k - 1) e) h) (λ e. b j (omega (arith, eqb-false j (k - 1) e)) q)

pub insert_held : (n : Nearest) (x : Near) → Ordered n → length n.list ≡ 16 → (k : ℕ)
    → k ≡ length (before (not_lower farness x) (held n)) → k < 16
    → {count : ℕ} {list : List Near}
    → count ≡ min 16 (n.count + 1)
    → list ≡ take k n.list ++ x ∷ take (15 - k) (drop k n.list)
    → record { count = count; list = list } ≡ holding (take 16 (insert_by farness x (held n)))
insert_held n x o size k e h {count} {list} ec el =
    let l : List Near = held n in
    let len : length l ≡ n.count = length-take-le n.count n.list (omega (arith, o.few)) in
    let new : List Near = take k l ++ x ∷ drop k l in
    let within : k ≤ length l = rw e (length_before (not_lower farness x) l) in
    let put : insert_by farness x l ≡ new =
    insert-before farness x l ∙ ap (λ (m : ℕ). take m l ++ x ∷ drop m l) (sym e) in
    let full : n.list ≡ l ++ replicate (16 - length l) no_near = ap (λ m. m.list) o.form in
    let one : length new ≡ n.count + 1 =
    length-append (take k l) (x ∷ drop k l) ∙ omega (arith, length-take-le k l within, length-drop k l) in
    let size_new : length (take 16 new) ≡ count = length-take 16 new ∙ ap (λ (m : ℕ). min 16 m) one ∙ sym ec in
    let listed : list ≡ take 16 new ++ replicate (16 - length (take 16 new)) no_near =
    el ∙ ap (λ m. take k m ++ x ∷ take (15 - k) (drop k m)) full ∙ put-filled 15 l k x no_near within (omega arith) (omega (arith, o.few)) in
    ap (λ (c : ℕ). let r : Nearest = record { count = c; list = list } in r) (sym size_new)
    ∙ ap (λ m. let r : Nearest = record { count = length (take 16 new); list = m } in r) listed
    ∙ ap (λ m. holding (take 16 m)) (sym put)

-- the seventeenth falls off
pub insert_none : (n : Nearest) (x : Near) → Ordered n → length n.list ≡ 16
    → 16 ≤ length (before (not_lower farness x) (held n))
    → n ≡ holding (take 16 (insert_by farness x (held n)))
insert_none n x o size h =
    let l : List Near = held n in
    let len : length l ≡ n.count = length-take-le n.count n.list (omega (arith, o.few)) in
    let most : length (before (not_lower farness x) l) ≤ length l = length_before (not_lower farness x) l in
    let k : length (before (not_lower farness x) l) ≡ 16 = omega (arith, o.few) in
    let put : insert_by farness x l ≡ take 16 l ++ x ∷ drop 16 l =
    insert-before farness x l ∙ ap (λ (m : ℕ). take m l ++ x ∷ drop m l) k in
    let front : take 16 (take 16 l ++ x ∷ drop 16 l) ≡ l =
    take_at (take 16 l) (x ∷ drop 16 l) 16 (length-take-le 16 l (omega arith)) ∙ take_all 16 l (omega (arith, o.few)) in
    o.form ∙ ap holding (sym front) ∙ ap (λ m. holding (take 16 m)) (sym put)
