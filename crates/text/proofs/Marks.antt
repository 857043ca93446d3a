-- Laws of texts cut at marks. Assumes nothing.
use Prim.Native.Nat.{ℕ, suc, ◌+◌, ◌-◌, ◌≤◌, ◌<◌}
use mathlib.Core.Path.{◌≡◌, refl, sym, ap, ◌∙◌}
use mathlib.Core.Bool.{Bool, true, false}
use mathlib.Core.List.{[], ◌∷◌, ◌++◌}
use native.Mathlib.Omega.{arith}
use borrow.Author.Tests.{eq-eqb, eqb-true}
use lib.Dec.{eqb}
use lib.ListN.{length, take, drop, length-drop, take-append-drop}
use lib.Seq.{drop-drop}
use Rattle.std.specs.Option.{unwrap_or}
use Rattle.std.specs.List.{position, position_or_len}
use Rattle.octets.specs.Octets.{Bytes}
use Rattle.lists.specs.Lists.{before, All}
use Rattle.lists.proofs.Laws.{by_test}
use Rattle.text.specs.Marks.{until}

-- ---- where the mark is found

before_first : (q : ℕ → Bool) (s : Bytes) → length (before q s) ≡ position_or_len q s
before_first q [] = refl
before_first q (b ∷ s) = by_test (q b) (λ e. rw e) (λ e. rw e (omega (arith, before_first q s)))

length_before : (q : ℕ → Bool) (s : Bytes) → length (before q s) ≤ length s
length_before q [] = omega arith
length_before q (b ∷ s) = by_test (q b) (λ e. rw e (omega arith)) (λ e. rw e (omega (arith, length_before q s)))

pub until_first : (mark : ℕ) (s : Bytes) (at : ℕ) → unwrap_or (position (λ b. eqb b mark) (drop at s)) (length (drop at s)) ≡ length (until mark at s)
unfolding until
until_first mark s at = grind (arith, before_first (λ b. eqb b mark) (drop at s), length_before (λ b. eqb b mark) (drop at s))

-- ---- what the cut leaves

-- the bytes before a mark are those that the text begins with
take_before : (q : ℕ → Bool) (s : Bytes) → take (length (before q s)) s ≡ before q s
take_before q [] = refl
take_before q (b ∷ s) = by_test (q b) (λ e. rw e) (λ e. rw e (ap (λ (l : Bytes). b ∷ l) (take_before q s)))

pub take-until : (mark : ℕ) (s : Bytes) (at end : ℕ) → end ≡ at + length (until mark at s) → take (end - at) (drop at s) ≡ until mark at s
unfolding until
take-until mark s at end e =
    let n : end - at ≡ length (before (λ (b : ℕ). eqb b mark) (drop at s)) = omega arith in
    ap (λ (k : ℕ). take k (drop at s)) n ∙ take_before (λ (b : ℕ). eqb b mark) (drop at s)

pub cut-until : (mark : ℕ) (s : Bytes) (at : ℕ) → drop at s ≡ until mark at s ++ drop (at + length (until mark at s)) s
unfolding until
cut-until mark s at =
    let n : ℕ = length (until mark at s) in
    sym (take-append-drop n (drop at s))
    ∙ ap (λ (l : Bytes). take n (drop at s) ++ l) (drop-drop n at s)
    ∙ ap (λ (u : Bytes). u ++ drop (at + n) s) (take_before (λ (b : ℕ). eqb b mark) (drop at s))

-- where the text goes on after them, it does so with the mark
split_before : (mark : ℕ) (s : Bytes) → length (before (λ (b : ℕ). eqb b mark) s) < length s
    → s ≡ before (λ (b : ℕ). eqb b mark) s ++ mark ∷ drop (suc (length (before (λ (b : ℕ). eqb b mark) s))) s
split_before mark [] = λ h. absurd (omega arith)
split_before mark (b ∷ s) =
    by_test (eqb b mark)
    (λ e. rw e (λ h. ap (λ (x : ℕ). x ∷ s) (eqb-true b mark e)))
    (λ e. rw e (λ h. ap (λ (l : Bytes). b ∷ l) (split_before mark s (omega arith))))

pub split_until : (mark : ℕ) (s : Bytes) (at : ℕ) → at + length (until mark at s) < length s
    → drop at s ≡ until mark at s ++ mark ∷ drop (at + length (until mark at s) + 1) s
unfolding until
split_until mark s at h =
    let n : ℕ = length (before (λ (b : ℕ). eqb b mark) (drop at s)) in
    let e : at + suc n ≡ at + n + 1 = omega arith in
    split_before mark (drop at s) (omega (arith, length-drop at s))
    ∙ ap (λ (l : Bytes). before (λ (b : ℕ). eqb b mark) (drop at s) ++ mark ∷ l) (drop-drop (suc n) at s ∙ ap (λ (k : ℕ). drop k s) e)

pub until-within : (mark : ℕ) (s : Bytes) (at : ℕ) → at ≤ length s → at + length (until mark at s) ≤ length s
unfolding until
until-within mark s at h = omega (arith, length-drop at s, length_before (λ (b : ℕ). eqb b mark) (drop at s))

-- ---- a text without the mark is cut where it ends

before_end : (q : ℕ → Bool) (u : Bytes) → All (λ (b : ℕ). q b ≡ false) u → before q u ≡ u
before_end q [] p = refl
before_end q (b ∷ u) p = rw p.0 (ap (λ (l : Bytes). b ∷ l) (before_end q u p.1))

before_mark : (q : ℕ → Bool) (u t : Bytes) (m : ℕ) → All (λ (b : ℕ). q b ≡ false) u → q m ≡ true → before q (u ++ m ∷ t) ≡ u
before_mark q [] t m p h = rw h
before_mark q (b ∷ u) t m p h = rw p.0 (ap (λ (l : Bytes). b ∷ l) (before_mark q u t m p.1 h))

pub until_end : (mark : ℕ) (s : Bytes) (at : ℕ) (u : Bytes) → All (λ (b : ℕ). eqb b mark ≡ false) u → drop at s ≡ u → until mark at s ≡ u
unfolding until
until_end mark s at u p e = ap (before (λ (b : ℕ). eqb b mark)) e ∙ before_end (λ (b : ℕ). eqb b mark) u p

pub until_mark : (mark : ℕ) (s : Bytes) (at : ℕ) (u t : Bytes) → All (λ (b : ℕ). eqb b mark ≡ false) u → drop at s ≡ u ++ mark ∷ t → until mark at s ≡ u
unfolding until
until_mark mark s at u t p e =
    ap (before (λ (b : ℕ). eqb b mark)) e ∙ before_mark (λ (b : ℕ). eqb b mark) u t mark p (eq-eqb mark mark refl)
