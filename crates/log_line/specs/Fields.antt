-- The fields of a line, "parted by one tab", as spans of it.
use Rattle.std.specs.Prelude.{ℕ, ◌+◌, ◌≤◌, Bool, cond, not, List, [], ◌∷◌, eqb, length, get_or, set, replicate}
use Rattle.lists.specs.Lists.{all}
use Rattle.octets.specs.Octets.{Bytes, part, store}
use Rattle.text.specs.Hex.{unhex}
use Rattle.packet_span.specs.declared.Span.{Span}
use Rattle.log_line.specs.declared.Fields.{Fields}

abbrev pub span : ℕ → ℕ → Span
span start len = record { start = start; len = len }

-- the fields where the first begins at start and has len bytes before s
abbrev pub fields_from : ℕ → ℕ → Bytes → List Span
fields_from start len [] = span start len ∷ []
fields_from start len (b ∷ s) = cond (eqb b 0x09) (span start len ∷ fields_from (start + len + 1) 0 s) (fields_from start (len + 1) s)

unfoldable pub fields : Bytes → List Span
fields line = fields_from 0 0 line

-- the bytes of a field
abbrev pub text : Bytes → Span → Bytes
text line f = part line f.start f.len

-- the bytes whose hex is a part of a line
unfoldable pub said : Bytes → Span → Bytes
said line f = unhex (text line f)

-- field i, the first being 0; an empty span where there is none
abbrev pub field : List Span → ℕ → Span
field fs i = get_or fs i (span 0 0)

-- every field is a span of the line
abbrev pub Within : Bytes → List Span → Type 0
Within line fs = (i : ℕ) → (field fs i).start + (field fs i).len ≤ length line

-- no byte is a tab
abbrev pub untabbed : Bytes → Bool
untabbed s = all (λ b. not (eqb b 0x09)) s

-- how many fields there are, and the first seven
unfoldable pub counted : List Span → Fields
counted fs = record { count = length fs; spans = store (replicate 7 (span 0 0)) 0 fs }

-- one field more
abbrev pub added : Fields → Span → Fields
added r f = record { count = r.count + 1; spans = set r.spans r.count f }
