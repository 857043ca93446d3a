-- What a write leaves, and writes one after the other. Assumes nothing.
use Prim.Native.Nat.{ℕ, ◌+◌}
use mathlib.Core.Path.{◌≡◌, sym, ap, ◌∙◌}
use mathlib.Core.List.{[], ◌∷◌, ◌++◌}
use native.Mathlib.Numerals.{add-one}
use native.Mathlib.Omega.{arith}
use lib.ListN.{length, set, length-append}
use Rattle.octets.specs.Octets.{Bytes, store}
use Rattle.octets.proofs.Laws.{store-append}

-- d' is d with xs written at `at`, and r is the index after them
abbrev pub Wrote : Bytes → ℕ → Bytes → Bytes → ℕ → Type 0
Wrote d at xs d' r = (r ≡ at + length xs) × (d' ≡ store d at xs)

pub wrote_append : (d : Bytes) (at : ℕ) (xs ys d₁ d₂ : Bytes) (n₁ n₂ : ℕ) → Wrote d at xs d₁ n₁ → Wrote d₁ n₁ ys d₂ n₂ → Wrote d at (xs ++ ys) d₂ n₂
wrote_append d at xs ys d₁ d₂ n₁ n₂ w₁ w₂ = (
  omega (arith, w₁.0, w₂.0, length-append xs ys),
  w₂.1 ∙ ap (λ (x : Bytes). store x n₁ ys) w₁.1 ∙ ap (λ (k : ℕ). store (store d at xs) k ys) w₁.0 ∙ sym (store-append xs ys d at),
)

-- one byte is written, and bytes after it
pub wrote_one : (d : Bytes) (at b : ℕ) (ys : Bytes) → ys ≡ b ∷ [] → Wrote d at ys (set d at b) (at + 1)
wrote_one d at b ys e = (omega (arith, ap length e), ap (store d at) (sym e))

pub wrote_cons : (d : Bytes) (at b : ℕ) (xs ys d' : Bytes) (r : ℕ) → ys ≡ b ∷ xs → Wrote (set d at b) (at + 1) xs d' r → Wrote d at ys d' r
wrote_cons d at b xs ys d' r e w =
    (omega (arith, w.0, ap length e), w.1 ∙ ap (λ (k : ℕ). store (set d at b) k xs) (add-one at) ∙ ap (store d at) (sym e))
