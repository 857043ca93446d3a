-- The four forms of a line. Document 01, "Log and printout": "`own`, B, key. `rx`, ms, Unix seconds, address, port, signer or `-`, datagram.
-- `sent`, ms, key, address, UDP, TCP, hash. `sweep`, ms."
use Rattle.std.specs.Prelude.{ℕ, ◌+◌, ◌-◌, ◌^◌, ◌≤◌, ◌≡◌, Bool, true, false, cond, ◌&&◌, ◌||◌, List, [], ◌∷◌, ltb, length, is_some}
use Rattle.std.specs.Option.{unwrap_or}
use Rattle.octets.specs.Octets.{Bytes, same_bytes}
use Rattle.text.specs.Decimals.{decimal_of}
use Rattle.text.specs.Hex.{is_hex, hex, unhex}
use Rattle.log_lines.specs.Lines.{limit, Held, whole, too_long}
use Rattle.log_line.specs.Fields.{span, fields, text, field}
use Rattle.packet_span.specs.declared.Span.{Span}
use Rattle.log_line.specs.declared.Kind.{Kind}
use Rattle.log_line.specs.declared.Kind.TheVariants.{Number, Hex, HexOrDash}
use Rattle.log_line.specs.declared.Line.{Line}
use Rattle.log_line.specs.declared.Line.TheVariants.{Own, Rx, Sent, Sweep, Unreadable}

-- ---- what a field must be

-- `-`
abbrev pub dash : Bytes
dash = 0x2d ∷ []

unfoldable pub has : Kind → Bytes → Bool
has (Number max) f = is_some (decimal_of max f)
has Hex f = is_hex f
has HexOrDash f = is_hex f || same_bytes f dash

-- the fields are of these kinds, one for one
abbrev pub each : Bytes → List Kind → List Span → Bool
each line [] [] = true
each line [] (f ∷ fs) = false
each line (k ∷ ks) [] = false
each line (k ∷ ks) (f ∷ fs) = has k (text line f) && each line ks fs

-- a first field that is this word, and then fields of these kinds
abbrev pub of_form : Bytes → Bytes → List Kind → List Span → Bool
of_form line word ks [] = false
of_form line word ks (f ∷ fs) = same_bytes (text line f) word && each line ks fs

-- ---- the forms

-- "fit 64 bits, ports 16"
abbrev pub any : Kind
any = Number (2 ^ 64 - 1)

abbrev pub port : Kind
port = Number (2 ^ 16 - 1)

-- `own`
abbrev pub own_word : Bytes
own_word = 0x6f ∷ 0x77 ∷ 0x6e ∷ []

abbrev pub own_kinds : List Kind
own_kinds = any ∷ Hex ∷ []

-- `rx`
abbrev pub rx_word : Bytes
rx_word = 0x72 ∷ 0x78 ∷ []

abbrev pub rx_kinds : List Kind
rx_kinds = any ∷ any ∷ Hex ∷ port ∷ HexOrDash ∷ Hex ∷ []

-- `sent`
abbrev pub sent_word : Bytes
sent_word = 0x73 ∷ 0x65 ∷ 0x6e ∷ 0x74 ∷ []

abbrev pub sent_kinds : List Kind
sent_kinds = any ∷ Hex ∷ Hex ∷ port ∷ port ∷ Hex ∷ []

-- `sweep`
abbrev pub sweep_word : Bytes
sweep_word = 0x73 ∷ 0x77 ∷ 0x65 ∷ 0x65 ∷ 0x70 ∷ []

abbrev pub sweep_kinds : List Kind
sweep_kinds = any ∷ []

-- ---- what they say

-- the number that field i spells, of at most max
unfoldable pub number : ℕ → Bytes → Span → ℕ
number max line f = unwrap_or (decimal_of max (text line f)) 0

-- the span of a signer: empty for `-`
unfoldable pub signer : Bytes → Span → Span
signer line f = cond (same_bytes (text line f) dash) (span f.start 0) f

abbrev pub number64 : Bytes → Span → ℕ
number64 = number (2 ^ 64 - 1)

abbrev pub number16 : Bytes → Span → ℕ
number16 = number (2 ^ 16 - 1)

unfoldable pub own_line : Bytes → List Span → Line
own_line line fs = Own (number64 line (field fs 1)) (field fs 2)

unfoldable pub rx_line : Bytes → List Span → Line
rx_line line fs =
    Rx (number64 line (field fs 1)) (number64 line (field fs 2)) (field fs 3) (number16 line (field fs 4)) (signer line (field fs 5)) (field fs 6)

unfoldable pub sent_line : Bytes → List Span → Line
sent_line line fs =
    Sent (number64 line (field fs 1)) (field fs 2) (field fs 3) (number16 line (field fs 4)) (number16 line (field fs 5)) (field fs 6)

unfoldable pub sweep_line : Bytes → List Span → Line
sweep_line line fs = Sweep (number64 line (field fs 1))

unfoldable pub formed : Bytes → List Span → Line
formed line fs =
    cond (of_form line own_word own_kinds fs)
    (own_line line fs)
    (cond (of_form line rx_word rx_kinds fs)
    (rx_line line fs)
    (cond (of_form line sent_word sent_kinds fs)
    (sent_line line fs)
    (cond (of_form line sweep_word sweep_kinds fs) (sweep_line line fs) Unreadable)))

-- what a line says; one over the limit is of no form
unfoldable pub line_of : Bytes → Line
line_of line = cond (ltb limit (length line)) Unreadable (formed line (fields line))

-- what a line says, as it is held
abbrev pub held_line : Held → Line
held_line (whole line) = line_of line
held_line too_long = Unreadable

-- the hex that a line says
abbrev pub spans_of : Line → List Span
spans_of (Own buckets key) = key ∷ []
spans_of (Rx now unix address port signer datagram) = address ∷ signer ∷ datagram ∷ []
spans_of (Sent now key address udp tcp hash) = key ∷ address ∷ hash ∷ []
spans_of (Sweep now) = []
spans_of Unreadable = []

-- a part of the line, which is the hex of the bytes that it is decoded to
pub record HexSpan (line : Bytes) (f : Span) : Type 0 where
  pub within : f.start + f.len ≤ length line
  pub digits : hex (unhex (text line f)) ≡ text line f
