-- Laws of the fields that were found: they decide a line's form and what it says. Assumes nothing.
use Prim.Native.Nat.{ℕ, suc, ◌+◌, ◌-◌, ◌≤◌, ◌<◌}
use mathlib.Core.Path.{◌≡◌, sym, ap, ◌∙◌}
use mathlib.Core.Bool.{Bool, true, false}
use mathlib.Core.List.{List, [], ◌∷◌}
use native.Mathlib.Omega.{arith}
use borrow.Author.Tests.{lt-ltb, le-ltb}
use lib.ListN.{length, take, drop, length-drop}
use Rattle.octets.specs.Octets.{Bytes, same_bytes}
use Rattle.log_lines.specs.Lines.{limit}
use Rattle.packet_span.specs.declared.Span.{Span}
use Rattle.log_line.specs.declared.Fields.{Fields}
use Rattle.log_line.specs.declared.Kind.{Kind}
use Rattle.log_line.specs.declared.Line.TheVariants.{Unreadable}
use Rattle.log_line.specs.Fields.{fields, text, field, Within, counted}
use Rattle.log_line.specs.Forms.{each, of_form, own_word, own_kinds, rx_word, rx_kinds, sent_word, sent_kinds, sweep_word, sweep_kinds, own_line, rx_line, sent_line, sweep_line, formed, line_of}
use Rattle.log_line.proofs.Spans.{fields_within, counted-field, counted-within, counted_rest}
use Rattle.log_line.proofs.Reading.{form-count, form-word, form-each}

module _ (line : Bytes) (found : Fields) (e : found ≡ counted (fields line)) where
  pub found_within : Within line found.spans
  found_within = rw e (counted-within line (fields line) (fields_within line))

  pub found-field : (i : ℕ) → i < 7 → field found.spans i ≡ field (fields line) i
  found-field i h = rw e (counted-field (fields line) i h)

  found-count : found.count ≡ length (fields line)
  unfolding counted
  found-count = ap (λ (r : Fields). r.count) e

  module _ (word : Bytes) (kinds : List Kind) where
    pub form-none : (found.count ≡ length kinds + 1 → ⊥) → of_form line word kinds (fields line) ≡ false
    form-none ne = form-count line word kinds (fields line) (λ c. ne (omega (arith, found-count)))

    pub form-other : same_bytes (text line (field found.spans 0)) word ≡ false → of_form line word kinds (fields line) ≡ false
    form-other w = form-word line word kinds (fields line) (rw (found-field 0 (omega arith)) at w)

    module _ (h : length kinds ≤ 6) (c : found.count ≡ length kinds + 1) where
      -- the fields after the first
      pub found-rest : take (found.count - 1) (drop 1 found.spans) ≡ drop 1 (fields line)
      found-rest =
          let n : found.count - 1 ≡ length kinds = omega arith in
          ap (λ (k : ℕ). take k (drop 1 found.spans)) n
          ∙ ap (λ (r : Fields). take (length kinds) (drop 1 r.spans)) e
          ∙ counted_rest (fields line) (length kinds) (omega (arith, found-count)) h

      pub rest-size : length (take (found.count - 1) (drop 1 found.spans)) ≡ length kinds
      rest-size = omega (arith, ap length found-rest, length-drop 1 (fields line), found-count)

      pub rest-within : Within line (take (found.count - 1) (drop 1 found.spans))
      rest-within = rw found-rest (within-rest (fields line) (fields_within line))
        where
          within-rest : (fs : List Span) → Within line fs → Within line (drop 1 fs)
          within-rest [] w i = w i
          within-rest (f ∷ fs) w i = w (suc i)

      pub form-is : same_bytes (text line (field found.spans 0)) word ≡ true → each line kinds (take (found.count - 1) (drop 1 found.spans)) ≡ of_form line word kinds (fields line)
      form-is w =
          ap (each line kinds) found-rest
          ∙ sym (form-each line word kinds (fields line) (omega (arith, found-count)) (rw (found-field 0 (omega arith)) at w))

-- ---- what the line says

-- what a test that was made says of what it decides
pub outcome : {b r o : Bool} → r ≡ b → r ≡ o → b ≡ o
outcome e t = sym e ∙ t

pub line_long : (line : Bytes) → limit < length line → line_of line ≡ Unreadable
unfolding line_of
line_long line h = rw (lt-ltb limit (length line) h)

module _ (line : Bytes) (h : length line ≤ limit) where
  pub line-own : of_form line own_word own_kinds (fields line) ≡ true → line_of line ≡ own_line line (fields line)
  unfolding line_of formed
  line-own o = rw (le-ltb limit (length line) h, o)

  module _ (no : of_form line own_word own_kinds (fields line) ≡ false) where
    pub line-rx : of_form line rx_word rx_kinds (fields line) ≡ true → line_of line ≡ rx_line line (fields line)
    unfolding line_of formed
    line-rx r = rw (le-ltb limit (length line) h, no, r)

    module _ (nr : of_form line rx_word rx_kinds (fields line) ≡ false) where
      pub line-sent : of_form line sent_word sent_kinds (fields line) ≡ true → line_of line ≡ sent_line line (fields line)
      unfolding line_of formed
      line-sent s = rw (le-ltb limit (length line) h, no, nr, s)

      module _ (ns : of_form line sent_word sent_kinds (fields line) ≡ false) where
        pub line-sweep : of_form line sweep_word sweep_kinds (fields line) ≡ true → line_of line ≡ sweep_line line (fields line)
        unfolding line_of formed
        line-sweep s = rw (le-ltb limit (length line) h, no, nr, ns, s)

        pub line-none : of_form line sweep_word sweep_kinds (fields line) ≡ false → line_of line ≡ Unreadable
        unfolding line_of formed
        line-none s = rw (le-ltb limit (length line) h, no, nr, ns, s)
