-- Laws of the bytes before the next 0A. Assumes nothing.
use Prim.Native.Nat.{ℕ}
use mathlib.Core.Path.{◌≡◌, refl, ap}
use mathlib.Core.Bool.{false}
use mathlib.Core.List.{[], ◌∷◌, ◌++◌}
use borrow.Author.Tests.{eqb-true}
use lib.Dec.{eqb}
use Rattle.octets.specs.Octets.{Bytes}
use Rattle.lists.proofs.Laws.{by_test}
use Rattle.log_lines.specs.Steps.{piece}

-- what is left after the piece is nothing, or begins with 0A
pub data Ends (s : Bytes) : Type 0 where
  here : s ≡ piece s → Ends s
  newline : (t : Bytes) → s ≡ piece s ++ 10 ∷ t → Ends s

ends_more : (b : ℕ) (s : Bytes) → eqb b 10 ≡ false → Ends s → Ends (b ∷ s)
unfolding piece
ends_more b s e (here p) = here (rw e (ap (λ (l : Bytes). b ∷ l) p))
ends_more b s e (newline t p) = newline t (rw e (ap (λ (l : Bytes). b ∷ l) p))

pub ends : (s : Bytes) → Ends s
unfolding piece
ends [] = here refl
ends (b ∷ s) =
    by_test (eqb b 10)
    (λ e. newline s (rw e (ap (λ (x : ℕ). x ∷ s) (eqb-true b 10 e))))
    (λ e. ends_more b s e (ends s))
