-- What holds of every line: its spans are parts of it and hex, and it says the same as it is held. Assumes nothing.
use Prim.Native.Nat.{ℕ, zero, suc, ◌+◌, ◌≤◌, ◌<◌}
use mathlib.Core.Path.{◌≡◌, refl, sym}
use mathlib.Core.Bool.{Bool, true, false, ◌||◌}
use mathlib.Core.List.{List, [], ◌∷◌}
use native.Mathlib.Omega.{arith}
use lib.Dec.{ltb}
use lib.ListN.{length, get_or}
use Rattle.octets.specs.Octets.{Bytes, same_bytes, part}
use Rattle.lists.specs.Lists.{All}
use Rattle.lists.proofs.Laws.{by_test, never, and_left, and_right}
use Rattle.text.specs.Hex.{is_hex, unhex}
use Rattle.text.proofs.Hex.{hex-sound}
use Rattle.log_lines.specs.Lines.{limit, held}
use Rattle.packet_span.specs.declared.Span.{Span}
use Rattle.log_line.specs.declared.Kind.{Kind}
use Rattle.log_line.specs.declared.Kind.TheVariants.{Number, Hex, HexOrDash}
use Rattle.log_line.specs.Fields.{fields, text, field, Within}
use Rattle.log_line.specs.Forms.{dash, has, each, of_form, own_word, own_kinds, rx_word, rx_kinds, sent_word, sent_kinds, sweep_word, sweep_kinds, signer, own_line, rx_line, sent_line, sweep_line, formed, line_of, held_line, spans_of, HexSpan}
use Rattle.log_line.proofs.Spans.{fields_within}

-- a line of a form has each of its kinds
each_at : (line : Bytes) (ks : List Kind) (fs : List Span) → each line ks fs ≡ true → (i : ℕ) → i < length ks → has (get_or ks i (Number 0)) (text line (field fs i)) ≡ true
each_at line [] fs e i h = absurd (omega arith)
each_at line (k ∷ ks) [] e i h = never (sym e)
each_at line (k ∷ ks) (f ∷ fs) e zero h = and_left (has k (text line f)) (each line ks fs) e
each_at line (k ∷ ks) (f ∷ fs) e (suc i) h = each_at line ks fs (and_right (has k (text line f)) (each line ks fs) e) i (omega arith)

form_at : (line word : Bytes) (ks : List Kind) (fs : List Span) → of_form line word ks fs ≡ true → (i : ℕ) → i < length ks → has (get_or ks i (Number 0)) (text line (field fs (suc i))) ≡ true
form_at line word ks [] e i h = never (sym e)
form_at line word ks (f ∷ fs) e i h = each_at line ks fs (and_right (same_bytes (text line f) word) (each line ks fs) e) i h

empty_span : (line : Bytes) (f : Span) → f.start + f.len ≤ length line → HexSpan line (record { start = f.start; len = 0 })
unfolding part unhex
empty_span line f h = record { within = omega arith; digits = refl }

module _ (line : Bytes) (fs : List Span) (w : Within line fs) where
  hex-field : (i : ℕ) → has Hex (text line (field fs i)) ≡ true → HexSpan line (field fs i)
  unfolding has
  hex-field i e = record { within = w i; digits = hex-sound (text line (field fs i)) e }

  signer-field : (i : ℕ) → has HexOrDash (text line (field fs i)) ≡ true → HexSpan line (signer line (field fs i))
  unfolding has signer
  signer-field i e =
      by_test (same_bytes (text line (field fs i)) dash)
      (λ d. rw d (empty_span line (field fs i) (w i)))
      (λ d. rw d (record { within = w i; digits = hex-sound (text line (field fs i)) (left (is_hex (text line (field fs i))) (rw d at e)) }))
    where
      left : (b : Bool) → (b || false) ≡ true → b ≡ true
      left true h = refl
      left false h = h

  formed-spans : All (HexSpan line) (spans_of (formed line fs))
  unfolding formed own_line rx_line sent_line sweep_line
  formed-spans =
      by_test (of_form line own_word own_kinds fs)
      (λ o. let at = form_at line own_word own_kinds fs o in rw o (hex-field 2 (at 1 (omega arith)), tt))
      (λ o.
      by_test (of_form line rx_word rx_kinds fs)
      (λ r. let at = form_at line rx_word rx_kinds fs r in rw (o, r) (hex-field 3 (at 2 (omega arith)), (signer-field 5 (at 4 (omega arith)), (hex-field 6 (at 5 (omega arith)), tt))))
      (λ r.
      by_test (of_form line sent_word sent_kinds fs)
      (λ s. let at = form_at line sent_word sent_kinds fs s in rw (o, r, s) (hex-field 2 (at 1 (omega arith)), (hex-field 3 (at 2 (omega arith)), (hex-field 6 (at 5 (omega arith)), tt))))
      (λ s. by_test (of_form line sweep_word sweep_kinds fs) (λ p. rw (o, r, s, p) tt) (λ p. rw (o, r, s, p) tt))))

-- every span of a line that is read is a part of it and hex
pub line_spans : (line : Bytes) → All (HexSpan line) (spans_of (line_of line))
unfolding line_of
line_spans line = by_test (ltb limit (length line)) (λ l. rw l tt) (λ l. rw l (formed-spans line (fields line) (fields_within line)))

-- a line over the limit, of which only that is held, says the same as it is held
pub line_held : (line : Bytes) → held_line (held line) ≡ line_of line
unfolding held line_of
line_held line = by_test (ltb limit (length line)) (λ l. rw l) (λ l. rw (l, l))
