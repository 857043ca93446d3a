-- The numbers of every line fit their types. Assumes nothing.
use Prim.Native.Nat.{ℕ, ◌-◌, ◌^◌, ◌≤◌, ◌<◌}
use mathlib.Core.Path.{◌≡◌, refl}
use mathlib.Core.List.{List}
use native.Mathlib.Omega.{arith}
use lib.Dec.{ltb}
use lib.ListN.{length}
use Rattle.octets.specs.Octets.{Bytes}
use Rattle.lists.proofs.Laws.{by_test}
use Rattle.std.specs.Prelude.{Option, Some, None}
use Rattle.std.specs.Option.{unwrap_or}
use Rattle.text.specs.Decimals.{decimal_of}
use Rattle.text.proofs.Decimals.{decimal-sound}
use Rattle.log_lines.specs.Lines.{limit}
use Rattle.packet_span.specs.declared.Span.{Span}
use Rattle.log_line.specs.declared.Line.{Line}
use Rattle.log_line.specs.declared.Line.TheVariants.{Own, Rx, Sent, Sweep, Unreadable}
use Rattle.log_line.specs.Fields.{fields, text, field}
use Rattle.log_line.specs.Forms.{of_form, own_word, own_kinds, rx_word, rx_kinds, sent_word, sent_kinds, sweep_word, sweep_kinds, number, own_line, rx_line, sent_line, sweep_line, formed, line_of}

-- milliseconds and Unix seconds of 64 bits, ports of 16
abbrev pub Numbers : Line → Type 0
Numbers (Own buckets key) = buckets < 2 ^ 64
Numbers (Rx now unix address port signer datagram) = (now < 2 ^ 64) × (unix < 2 ^ 64) × (port < 2 ^ 16)
Numbers (Sent now key address udp tcp hash) = (now < 2 ^ 64) × (udp < 2 ^ 16) × (tcp < 2 ^ 16)
Numbers (Sweep now) = now < 2 ^ 64
Numbers Unreadable = Unit {0}

pub number-most : (max : ℕ) (line : Bytes) (f : Span) → number max line f ≤ max
unfolding number
number-most max line f = by_value (decimal_of max (text line f)) refl
  where
    by_value : (d : Option ℕ) → decimal_of max (text line f) ≡ d → unwrap_or d 0 ≤ max
    by_value (Some n) e = (decimal-sound max (text line f) n e).1
    by_value None e = omega arith

module _ (line : Bytes) where
  of-64 : (f : Span) → number (2 ^ 64 - 1) line f < 2 ^ 64
  of-64 f = omega (arith, number-most (2 ^ 64 - 1) line f)

  of_16 : (f : Span) → number (2 ^ 16 - 1) line f < 2 ^ 16
  of_16 f = omega (arith, number-most (2 ^ 16 - 1) line f)

  formed-numbers : (fs : List Span) → Numbers (formed line fs)
  unfolding formed own_line rx_line sent_line sweep_line
  formed-numbers fs =
      by_test (of_form line own_word own_kinds fs)
      (λ o. rw o (of-64 (field fs 1)))
      (λ o.
      by_test (of_form line rx_word rx_kinds fs)
      (λ r. rw (o, r) (of-64 (field fs 1), of-64 (field fs 2), of_16 (field fs 4)))
      (λ r.
      by_test (of_form line sent_word sent_kinds fs)
      (λ s. rw (o, r, s) (of-64 (field fs 1), of_16 (field fs 4), of_16 (field fs 5)))
      (λ s. by_test (of_form line sweep_word sweep_kinds fs) (λ p. rw (o, r, s, p) (of-64 (field fs 1))) (λ p. rw (o, r, s, p) tt))))

  pub line-numbers : Numbers (line_of line)
  unfolding line_of
  line-numbers = by_test (ltb limit (length line)) (λ l. rw l tt) (λ l. rw l (formed-numbers (fields line)))
