-- Lists with an element put in and the last one lost. Assumes nothing.
use mathlib.Core.Path.{◌≡◌, refl, sym, ap, ◌∙◌}
use mathlib.Core.List.{List, [], ◌∷◌, ◌++◌, append_assoc, append-nil, map}
use Prim.Native.Nat.{ℕ, zero, suc, ◌+◌, ◌-◌, ◌≤◌, ◌<◌}
use native.Mathlib.Numerals.{add-one}
use native.Mathlib.Omega.{arith}
use Rattle.std.specs.List.{copy_within}
use lib.ListN.{drop_of_length-le, length, take, drop, set, get_or, replicate, length-append, length-drop, length-map}
use lib.Seq.{take-suc, set_at, append_snoc, length-take-le, take-append-add, take-append-le, drop-append-le}

-- the length of a field that is an array
pub length_mapped : (X Y : Type 0) (f : X → Y) (l : List X) (n : ℕ) → length (map f l) ≡ n → length l ≡ n
length_mapped X Y f l n e = sym (length-map l f) ∙ e

module _ {A : Type 0} where
  set_front : (l r : List A) (j : ℕ) (a d : A) → j < length l → set (take (j + 1) l ++ r) j a ≡ take j l ++ a ∷ r
  set_front l r j a d h =
      let e : take (j + 1) l ++ r ≡ take j l ++ get_or l j d ∷ r =
      ap (λ (n : ℕ). take n l ++ r) (add-one j) ∙ ap (λ m. m ++ r) (take-suc l j d h) ∙ append_snoc (take j l) (get_or l j d) r in
      ap (λ m. set m j a) e ∙ set_at (take j l) (get_or l j d) r a j (length-take-le j l (omega arith))

  -- the n elements of l with those from j on moved up by one
  abbrev pub moved : ℕ → List A → ℕ → List A
  moved n l j = take (j + 1) l ++ take (n - j) (drop j l)

  -- as the library moves them
  pub moved_up : (n : ℕ) (l : List A) (k : ℕ) → k ≤ n → length l ≡ n + 1 → copy_within l k n (k + 1) ≡ moved n l k
  moved_up n l k h len =
      let past : k + 1 + (n - k) ≡ n + 1 = omega arith in
      let none : drop (k + 1 + (n - k)) l ≡ [] = rw past (drop_of_length-le l (omega arith)) in
      ap (λ r. moved n l k ++ r) none ∙ append-nil (moved n l k)

  pub put_last : (n : ℕ) (l : List A) (k : ℕ) (x d : A) → k ≤ n → length l ≡ n + 1
      → set (moved n l k) k x ≡ take k l ++ x ∷ take (n - k) (drop k l)
  put_last n l k x d h len = set_front l (take (n - k) (drop k l)) k x d (omega arith)

  -- ---- a list and what fills it up

  take-replicate : (k m : ℕ) (a : A) → k ≤ m → take k (replicate m a) ≡ replicate k a
  take-replicate zero m a h = refl
  take-replicate (suc k) zero a h = absurd (omega arith)
  take-replicate (suc k) (suc m) a h = ap (λ l. a ∷ l) (take-replicate k m a (omega arith))

  take-filled : (k : ℕ) (l : List A) (m : ℕ) (a : A) → k ≤ length l + m
      → take k (l ++ replicate m a) ≡ take k l ++ replicate (k - length (take k l)) a
  take-filled zero l m a h = refl
  take-filled (suc k) [] m a h =
      let e : suc k ≡ suc k - 0 = omega arith in
      take-replicate (suc k) m a (omega arith) ∙ ap (λ (n : ℕ). replicate n a) e
  take-filled (suc k) (b ∷ l) m a h =
      let e : k - length (take k l) ≡ suc k - suc (length (take k l)) = omega arith in
      ap (λ r. b ∷ r) (take-filled k l m a (omega arith)) ∙ ap (λ (n : ℕ). b ∷ (take k l ++ replicate n a)) e

  -- an element put into a list that is filled up to n + 1
  pub put-filled : (n : ℕ) (l : List A) (p : ℕ) (x a : A) → p ≤ length l → p ≤ n → length l ≤ n + 1
      → take p (l ++ replicate (n + 1 - length l) a) ++ x ∷ take (n - p) (drop p (l ++ replicate (n + 1 - length l) a))
      ≡ take (n + 1) (take p l ++ x ∷ drop p l)
      ++ replicate (n + 1 - length (take (n + 1) (take p l ++ x ∷ drop p l))) a
  put-filled n l p x a h k small =
      let m : ℕ = n + 1 - length l in
      let front : length (take p l) ≡ p = length-take-le p l h in
      let new : List A = take p l ++ x ∷ drop p l in
      let len : length new ≡ length l + 1 = length-append (take p l) (x ∷ drop p l) ∙ omega (arith, length-drop p l) in
      let e : n + 1 ≡ length (take p l) + suc (n - p) = omega arith in
      ap (λ r. r ++ x ∷ take (n - p) (drop p (l ++ replicate m a))) (take-append-le p l (replicate m a) h)
      ∙ ap (λ r. take p l ++ x ∷ take (n - p) r) (drop-append-le p l (replicate m a) h)
      ∙ sym (take-append-add (take p l) (x ∷ (drop p l ++ replicate m a)) (suc (n - p)))
      ∙ ap (λ (k : ℕ). take k (take p l ++ x ∷ (drop p l ++ replicate m a))) (sym e)
      ∙ ap (λ r. take (n + 1) r) (sym (append_assoc (take p l) (x ∷ drop p l) (replicate m a)))
      ∙ take-filled (n + 1) new m a (omega arith)
