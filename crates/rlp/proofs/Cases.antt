-- A statement of a choice, from its two cases. Assumes nothing.
use Prim.Native.Nat.{ℕ, ◌≤◌, ◌<◌}
use mathlib.Core.Path.{◌≡◌, refl}
use mathlib.Core.Bool.{Bool, true, false, cond}
use borrow.Author.Tests.{leb-true, leb-false, ltb-true, ltb-false, eqb-true, eqb-false}
use lib.Dec.{leb, ltb, eqb}

pub by_cases : {A : Type 0} (P : A → Type 0) (b : Bool) {x y : A} → (b ≡ true → P x) → (b ≡ false → P y) → P (cond b x y)
by_cases P true f g = f refl
by_cases P false f g = g refl

pub by_leb : {A : Type 0} (P : A → Type 0) (m n : ℕ) {x y : A} → (m ≤ n → P x) → (n < m → P y) → P (cond (leb m n) x y)
by_leb P m n f g = by_cases P (leb m n) (λ e. f (leb-true m n e)) (λ e. g (leb-false m n e))

pub by_ltb : {A : Type 0} (P : A → Type 0) (m n : ℕ) {x y : A} → (m < n → P x) → (n ≤ m → P y) → P (cond (ltb m n) x y)
by_ltb P m n f g = by_cases P (ltb m n) (λ e. f (ltb-true m n e)) (λ e. g (ltb-false m n e))

pub by_eqb : {A : Type 0} (P : A → Type 0) (m n : ℕ) {x y : A} → (m ≡ n → P x) → ((m ≡ n → ⊥) → P y) → P (cond (eqb m n) x y)
by_eqb P m n f g = by_cases P (eqb m n) (λ e. f (eqb-true m n e)) (λ e. g (eqb-false m n e))
