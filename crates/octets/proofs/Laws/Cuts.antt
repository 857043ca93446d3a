-- Laws of cuts: the turns of a loop that closes a gap. Assumes nothing.
use mathlib.Core.Path.{◌≡◌, sym, ap, ◌∙◌}
use mathlib.Core.List.{List, [], ◌∷◌, ◌++◌, append-nil}
use Prim.Native.Nat.{ℕ, suc, ◌+◌, ◌-◌, ◌≤◌, ◌<◌}
use native.Mathlib.Omega.{arith}
use lib.ListN.{length, take, drop, set, get_or, length-append, length-take, length-drop, drop_of_length-le}
use native.Mathlib.Numerals.{add-one}
use lib.Seq.{take-set-lt, drop-set-lt, take-take, length-take-le, get_or-take, take-suc-set, append_snoc, drop-cons}
use Rattle.octets.specs.Octets.{cut}

-- a turn of the loop that closes a gap of w: the element past the gap fills its first place, and the gap is one place further on
pub cut_shift : {A : Type 0} (l : List A) (k w : ℕ) (d : A) → k + w < length l → 0 < w → cut (k + 1) w (set l k (get_or l (k + w) d)) ≡ cut k w l
cut_shift l k w d h pos =
    let x = get_or l (k + w) d in
    let front : take (k + 1) (set l k x) ≡ take k l ++ (x ∷ []) = rw add-one (take-suc-set l k x (omega arith)) in
    let e : k + 1 + w ≡ suc (k + w) = omega arith in
    let back : drop (k + 1 + w) (set l k x) ≡ drop (suc (k + w)) l =
    drop-set-lt (k + 1 + w) l k x (omega arith) ∙ ap (λ n. drop n l) e in
    ap (λ a. a ++ drop (k + 1 + w) (set l k x)) front
    ∙ ap (λ b. take k l ++ (x ∷ []) ++ b) back
    ∙ append_snoc (take k l) x (drop (suc (k + w)) l)
    ∙ ap (λ b. take k l ++ b) (sym (drop-cons l (k + w) d h))

-- the same among the first n elements
pub cut_turn : {A : Type 0} (l : List A) (n k w : ℕ) (d : A) → k + w < n → n ≤ length l → 0 < w
    → cut (k + 1) w (take n (set l k (get_or l (k + w) d))) ≡ cut k w (take n l)
cut_turn l n k w d h le pos =
    ap (λ x. cut (k + 1) w (take n (set l k x))) (sym (get_or-take n l (k + w) d h))
    ∙ ap (λ xs. cut (k + 1) w xs) (take-set-lt n l k _ (omega arith))
    ∙ cut_shift (take n l) k w d (omega (arith, length-take-le n l le)) pos

pub length_cut : {A : Type 0} (k w : ℕ) (l : List A) → k + w ≤ length l → length (cut k w l) ≡ length l - w
length_cut k w l h = simp (length-append, length-take, length-drop) (omega arith)

-- a gap at the end of the first n elements
pub cut_last : {A : Type 0} (l : List A) (n k w : ℕ) → k + w ≡ n → n ≤ length l → cut k w (take n l) ≡ take k l
cut_last l n k w e h =
    let all : length (take n l) ≤ k + w = omega (arith, length-take-le n l h) in
    let none : drop (k + w) (take n l) ≡ [] = drop_of_length-le (take n l) all in
    ap (λ b. take k (take n l) ++ b) none
    ∙ append-nil (take k (take n l))
    ∙ take-take k n l (omega arith)
