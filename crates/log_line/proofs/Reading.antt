-- Laws of forms: field by field, and what a line of a form says. Assumes nothing.
use Prim.Native.Nat.{ℕ, suc, ◌+◌, ◌<◌}
use mathlib.Core.Path.{◌≡◌, refl, sym, ap, ap₂, ◌∙◌}
use mathlib.Core.Bool.{Bool, true, false, ◌&&◌}
use mathlib.Core.List.{List, [], ◌∷◌}
use mathlib.Core.Logic.{◌⊎◌, ⊎_elim}
use native.Mathlib.Omega.{arith}
use lib.ListN.{length, drop}
use Rattle.octets.specs.Octets.{Bytes, same_bytes}
use Rattle.packet_span.specs.declared.Span.{Span}
use Rattle.log_line.specs.declared.Kind.{Kind}
use Rattle.log_line.specs.Fields.{text, field}
use Rattle.log_line.specs.Forms.{has, each, of_form, own_line, rx_line, sent_line, sweep_line}

-- ---- field by field

-- the kinds and fields that are left, after one of each
module _ (line : Bytes) {ks ls : List Kind} {k : Kind} {fs gs : List Span} {f : Span} {e : Bool} (p : ks ≡ k ∷ ls) (q : fs ≡ f ∷ gs) (all : each line ks fs ≡ e) where
  pub each-on : has k (text line f) ≡ true → each line ls gs ≡ e
  each-on t = sym (ap₂ (each line) p q ∙ rw t) ∙ all

  pub each-off : has k (text line f) ≡ false → false ≡ e
  each-off t = sym (ap₂ (each line) p q ∙ rw t) ∙ all

-- none is left of either, where there are as many
pub each-end : (line : Bytes) (ks : List Kind) (fs : List Span) {e : Bool} → length fs ≡ length ks → (ks ≡ []) ⊎ (fs ≡ []) → each line ks fs ≡ e → true ≡ e
each-end line [] [] n z all = all
each-end line [] (f ∷ fs) n z all = absurd (omega arith)
each-end line (k ∷ ks) [] n z all = absurd (omega arith)
each-end line (k ∷ ks) (f ∷ fs) n z all = ⊎_elim (λ p. absurd (omega (arith, ap length p))) (λ q. absurd (omega (arith, ap length q))) z

-- ---- the word and the number of fields

false_right : (b : Bool) → (b && false) ≡ false
false_right true = refl
false_right false = refl

each-length : (line : Bytes) (ks : List Kind) (fs : List Span) → (length fs ≡ length ks → ⊥) → each line ks fs ≡ false
each-length line [] [] ne = absurd (ne refl)
each-length line [] (f ∷ fs) ne = refl
each-length line (k ∷ ks) [] ne = refl
each-length line (k ∷ ks) (f ∷ fs) ne = rw (each-length line ks fs (λ e. ne (ap suc e))) (false_right (has k (text line f)))

module _ (line word : Bytes) (ks : List Kind) (fs : List Span) where
  pub form-count : (length fs ≡ length ks + 1 → ⊥) → of_form line word ks fs ≡ false
  form-count = by-fields fs
    where
      by-fields : (fs : List Span) → (length fs ≡ length ks + 1 → ⊥) → of_form line word ks fs ≡ false
      by-fields [] ne = refl
      by-fields (f ∷ fs) ne = rw (each-length line ks fs (λ e. ne (omega arith))) (false_right (same_bytes (text line f) word))

  pub form-word : same_bytes (text line (field fs 0)) word ≡ false → of_form line word ks fs ≡ false
  form-word = by-fields fs
    where
      by-fields : (fs : List Span) → same_bytes (text line (field fs 0)) word ≡ false → of_form line word ks fs ≡ false
      by-fields [] e = refl
      by-fields (f ∷ fs) e = rw e

  pub form-each : 0 < length fs → same_bytes (text line (field fs 0)) word ≡ true → of_form line word ks fs ≡ each line ks (drop 1 fs)
  form-each = by-fields fs
    where
      by-fields : (fs : List Span) → 0 < length fs → same_bytes (text line (field fs 0)) word ≡ true → of_form line word ks fs ≡ each line ks (drop 1 fs)
      by-fields [] p e = absurd (omega arith)
      by-fields (f ∷ fs) p e = rw e

-- ---- what it says

-- a line of a form goes by its first seven fields
module _ (line : Bytes) (fs gs : List Span) (same : (i : ℕ) → i < 7 → field fs i ≡ field gs i) where
  pub own_same : own_line line fs ≡ own_line line gs
  unfolding own_line
  own_same = rw (same 1 (omega arith), same 2 (omega arith))

  pub rx-same : rx_line line fs ≡ rx_line line gs
  unfolding rx_line
  rx-same = rw (same 1 (omega arith), same 2 (omega arith), same 3 (omega arith), same 4 (omega arith), same 5 (omega arith), same 6 (omega arith))

  pub sent-same : sent_line line fs ≡ sent_line line gs
  unfolding sent_line
  sent-same = rw (same 1 (omega arith), same 2 (omega arith), same 3 (omega arith), same 4 (omega arith), same 5 (omega arith), same 6 (omega arith))

  pub sweep-same : sweep_line line fs ≡ sweep_line line gs
  unfolding sweep_line
  sweep-same = rw (same 1 (omega arith))
