-- At most 31 nodes are gathered where no bucket has more than 16, and at least 16 unless every bucket is taken. Assumes nothing.
use Prim.Native.Nat.{ℕ, ◌+◌, ◌≤◌, ◌<◌}
use mathlib.Core.Path.{◌≡◌, ap}
use mathlib.Core.Logic.{◌⊎◌, inl, inr}
use mathlib.Core.List.{List, [], ◌∷◌}
use native.Mathlib.Omega.{arith}
use Rattle.lists.specs.Lists.{All}
use Rattle.closest_order.specs.Taking.{taken_from}
use Rattle.closest_order.proofs.Turns.{total, taken-cases, taken_none}

module _ (seated : ℕ → ℕ) where
  most-from : (order : List ℕ) (n : ℕ) → All (λ i. seated i ≤ 16) order → n < 16 → n + total seated (taken_from seated n order) ≤ 31
  most-from [] n few below = rw (taken_none seated n) (omega arith)
  most-from (i ∷ order) n few below =
      taken-cases seated (λ l. n + total seated l ≤ 31) n i order
      (λ h. omega (arith, few.0))
      (λ h. omega (arith, most-from order (n + seated i) few.1 h))

  enough-from : (order : List ℕ) (n : ℕ) → (16 ≤ n + total seated (taken_from seated n order)) ⊎ (taken_from seated n order ≡ order)
  enough-from [] n = inr (taken_none seated n)
  enough-from (i ∷ order) n =
      taken-cases seated (λ l. (16 ≤ n + total seated l) ⊎ (l ≡ i ∷ order)) n i order
      (λ h. inl (omega arith))
      (λ h. elim (enough-from order (n + seated i)) [
        | inl e ↦ inl (omega arith)
        | inr e ↦ inr (ap (λ l. i ∷ l) e)
      ])

  pub at_most_31 : (order : List ℕ) → All (λ i. seated i ≤ 16) order → total seated (taken_from seated 0 order) ≤ 31
  at_most_31 order few = omega (arith, most-from order 0 few (omega arith))

  pub enough : (order : List ℕ) → (16 ≤ total seated (taken_from seated 0 order)) ⊎ (taken_from seated 0 order ≡ order)
  enough order = elim (enough-from order 0) [
    | inl h ↦ inl (omega arith)
    | inr h ↦ inr h
  ]
