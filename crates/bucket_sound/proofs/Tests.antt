-- Laws of tests, and of comparing byte strings piece by piece. Assumes nothing.
use mathlib.Core.Path.{◌≡◌, refl, sym, ap, ◌∙◌}
use mathlib.Core.Bool.{Bool, true, false, not, ◌&&◌, ◌||◌}
use mathlib.Core.List.{List, [], ◌∷◌, ◌++◌}
use Prim.Native.Nat.{ℕ, ◌+◌}
use native.Mathlib.Nat.{suc_inj}
use native.Mathlib.Omega.{arith}
use lib.Dec.{eqb}
use lib.ListN.{length, drop}
use lib.Seq.{drop-drop, take-add}
use Rattle.octets.specs.Octets.{Bytes, part, same_bytes}
use Rattle.lists.specs.Lists.{all}

-- two tests that imply each other are the same
pub both_ways : (a b : Bool) → (a ≡ true → b ≡ true) → (b ≡ true → a ≡ true) → a ≡ b
both_ways true b f g = sym (f refl)
both_ways false true f g = g refl
both_ways false false f g = refl

pub and_intro : {a b : Bool} → a ≡ true → b ≡ true → (a && b) ≡ true
and_intro p q = rw (p, q) refl

-- a compound test, of tests that are known
pub and_same : {r a b x y : Bool} → r ≡ (a && b) → a ≡ x → b ≡ y → r ≡ (x && y)
and_same e p q = cc

pub and_true : (a : Bool) → (a && true) ≡ a
and_true true = refl
and_true false = refl

and_assoc : (a b c : Bool) → (a && (b && c)) ≡ ((a && b) && c)
and_assoc true b c = refl
and_assoc false b c = refl

pub or_false : (a : Bool) → (a || false) ≡ a
or_false true = refl
or_false false = refl

pub not_or : (a b : Bool) → not (a || b) ≡ (not a && not b)
not_or true b = refl
not_or false b = refl

pub all_append : {A : Type 0} (q : A → Bool) (l m : List A) → all q (l ++ m) ≡ (all q l && all q m)
all_append q [] m = refl
all_append q (a ∷ l) m = ap (λ b. q a && b) (all_append q l m) ∙ and_assoc (q a) (all q l) (all q m)

pub all_same : {A : Type 0} (q r : A → Bool) → ((a : A) → q a ≡ r a) → (l : List A) → all q l ≡ all r l
all_same q r h [] = refl
all_same q r h (a ∷ l) = rw (h a, all_same q r h l) refl

-- pieces of the same length are compared one after the other
pub same_append : (a b c d : Bytes) → length a ≡ length c → same_bytes (a ++ b) (c ++ d) ≡ (same_bytes a c && same_bytes b d)
unfolding same_bytes
same_append [] b [] d h = refl
same_append [] b (y ∷ c) d h = absurd (omega arith)
same_append (x ∷ a) b [] d h = absurd (omega arith)
same_append (x ∷ a) b (y ∷ c) d h =
    ap (λ t. eqb x y && t) (same_append a b c d (suc_inj h)) ∙ and_assoc (eqb x y) (same_bytes a c) (same_bytes b d)

-- two parts in a row
pub part-row : {A : Type 0} (s : List A) (at n m : ℕ) → part s at n ++ part s (at + n) m ≡ part s at (n + m)
unfolding part
part-row s at n m = rw (← drop-drop n at s) (sym (take-add n m (drop at s)))
