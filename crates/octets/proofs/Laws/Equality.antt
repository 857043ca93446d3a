-- Laws of the equality of byte strings. Assumes nothing.
use mathlib.Core.Path.{◌≡◌, refl}
use mathlib.Core.Logic.{◌≢◌}
use mathlib.Core.Bool.{Bool, true, false, ◌&&◌}
use mathlib.Core.List.{[], ◌∷◌}
use borrow.Author.Tests.{eq-eqb, eqb-true}
use lib.Dec.{eqb}
use Rattle.std.specs.Prelude.{Decides}
use Rattle.octets.specs.Octets.{Bytes, same_bytes}

pub same_refl : (s : Bytes) → same_bytes s s ≡ true
unfolding same_bytes
same_refl [] = refl
same_refl (a ∷ s) = rw (eq-eqb a a refl) (same_refl s)

-- strings that the test finds equal are equal
pub same_eq : (s t : Bytes) → same_bytes s t ≡ true → s ≡ t
unfolding same_bytes
same_eq [] [] h = refl
same_eq [] (b ∷ t) h = cc
same_eq (a ∷ s) [] h = cc
same_eq (a ∷ s) (b ∷ t) h = by_first (eqb a b) refl h (λ r. same_eq s t r)
  where
    by_first : (x : Bool) → eqb a b ≡ x → (x && same_bytes s t) ≡ true → (same_bytes s t ≡ true → s ≡ t) → a ∷ s ≡ b ∷ t
    by_first true e h rest = cc (eqb-true a b e, rest h)
    by_first false e h rest = cc

-- unequal strings are found unequal
pub same_ne : (s t : Bytes) → s ≢ t → same_bytes s t ≡ false
same_ne s t ne = by_answer (same_bytes s t) refl
  where
    by_answer : (x : Bool) → same_bytes s t ≡ x → x ≡ false
    by_answer true e = absurd (ne (same_eq s t e))
    by_answer false e = refl

-- the test decides whether two strings are equal
pub same_decides : (s t : Bytes) → Decides (same_bytes s t) (s ≡ t)
same_decides s t = (same_eq s t, λ e. rw e (same_refl t))
