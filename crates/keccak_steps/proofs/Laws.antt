-- What the proofs on states share: the elements of a tabulated list, and ⊕ is associative. Assumes nothing.
use mathlib.Core.Path.{◌≡◌, refl, sym, ap, ap₂, ◌∙◌}
use Prim.Native.Nat.{ℕ, zero, suc, ◌+◌, ◌*◌, ◌/◌, ◌%◌, ◌<◌}
use native.Mathlib.Nat.{zero-add, add-zero, add-suc, suc-add, le_of_suc-le-suc, not-suc-le-zero}
use native.Mathlib.Omega.{arith}
use lib.Arith.{bin_ind, digits_div, digits_mod}
use lib.Bits.{differ, xor_step}
use lib.ListN.{get_or}
use Rattle.keccak_steps.specs.Lanes.{◌⊕◌, each, list_of}

-- what stands at place k of `each f from n`
each_at : (f : ℕ → ℕ) (n from k : ℕ) → k < n → get_or (each f from n) k 0 ≡ f (from + k)
each_at f zero from k h = absurd (not-suc-le-zero h)
each_at f (suc n) from zero h = ap f (sym (add-zero from))
each_at f (suc n) from (suc k) h = each_at f n (suc from) k (le_of_suc-le-suc h) ∙ ap f (suc-add from k ∙ sym (add-suc from k))

pub list_of_at : (f : ℕ → ℕ) (n k : ℕ) → k < n → get_or (list_of n f) k 0 ≡ f k
list_of_at f n k h = each_at f n 0 k h ∙ ap f (zero-add k)

-- ---- ⊕ is associative, digit by digit
differ_lt : (x y : ℕ) → x < 2 → y < 2 → differ x y < 2
differ_lt zero y hx hy = hy
differ_lt (suc zero) zero hx hy = hx
differ_lt (suc zero) (suc zero) hx hy = omega arith
differ_lt (suc zero) (suc (suc y)) hx hy = absurd (omega arith)
differ_lt (suc (suc x)) y hx hy = absurd (omega arith)

differ_assoc : (x y z : ℕ) → x < 2 → y < 2 → z < 2 → differ (differ x y) z ≡ differ x (differ y z)
differ_assoc zero y z hx hy hz = refl
differ_assoc (suc zero) zero z hx hy hz = refl
differ_assoc (suc zero) (suc zero) zero hx hy hz = refl
differ_assoc (suc zero) (suc zero) (suc zero) hx hy hz = refl
differ_assoc (suc zero) (suc zero) (suc (suc z)) hx hy hz = absurd (omega arith)
differ_assoc (suc zero) (suc (suc y)) z hx hy hz = absurd (omega arith)
differ_assoc (suc (suc x)) y z hx hy hz = absurd (omega arith)

bit : (n : ℕ) → n % 2 < 2
bit n = omega arith

xor_half : (a b : ℕ) → (a ⊕ b) / 2 ≡ a / 2 ⊕ b / 2
xor_half a b = ap (λ (n : ℕ). n / 2) (xor_step a b) ∙ digits_div (a / 2 ⊕ b / 2) (differ_lt (a % 2) (b % 2) (bit a) (bit b))

xor_bit : (a b : ℕ) → (a ⊕ b) % 2 ≡ differ (a % 2) (b % 2)
xor_bit a b = ap (λ (n : ℕ). n % 2) (xor_step a b) ∙ digits_mod (a / 2 ⊕ b / 2) (differ_lt (a % 2) (b % 2) (bit a) (bit b))

pub xor_assoc : (a b c : ℕ) → (a ⊕ b) ⊕ c ≡ a ⊕ (b ⊕ c)
xor_assoc a =
    bin_ind (λ (n : ℕ). (b c : ℕ) → (n ⊕ b) ⊕ c ≡ n ⊕ (b ⊕ c))
    (λ b c. refl)
    (λ n ih b c.
    xor_step (n ⊕ b) c
    ∙ ap₂ (λ (h d : ℕ). (h ⊕ c / 2) * 2 + differ d (c % 2)) (xor_half n b) (xor_bit n b)
    ∙ ap₂ (λ (h d : ℕ). h * 2 + d) (ih (b / 2) (c / 2)) (differ_assoc (n % 2) (b % 2) (c % 2) (bit n) (bit b) (bit c))
    ∙ ap₂ (λ (h d : ℕ). (n / 2 ⊕ h) * 2 + differ (n % 2) d) (sym (xor_half b c)) (sym (xor_bit b c))
    ∙ sym (xor_step n (b ⊕ c)))
    a
