-- A line that is read. Assumes nothing.
use Prim.Native.Nat.{◌≤◌}
use mathlib.Core.Path.{◌≡◌, sym, ap, ◌∙◌}
use mathlib.Core.Bool.{Bool, true, false}
use native.Mathlib.Omega.{arith}
use native.Mathlib.Decide.{dec_lt}
use lib.ListN.{length}
use Rattle.octets.specs.Octets.{Bytes}
use Rattle.lists.specs.Lists.{All}
use Rattle.lists.proofs.Laws.{never}
use Rattle.log_lines.specs.Lines.{limit}
use Rattle.log_line.specs.declared.Line.{Line}
use Rattle.log_line.specs.declared.Line.TheVariants.{Own, Rx, Sent, Sweep, Unreadable}
use Rattle.log_line.specs.Forms.{line_of, spans_of, HexSpan}
use Rattle.log_line.proofs.Found.{line_long}
use Rattle.log_line.proofs.Laws.{line_spans}

abbrev pub is_read : Line → Bool
is_read (Own buckets key) = true
is_read (Rx now unix address port signer bytes) = true
is_read (Sent now key address udp tcp hash) = true
is_read (Sweep now) = true
is_read Unreadable = false

module _ (line : Bytes) (l : Line) (e : line_of line ≡ l) where
  -- it is within the limit
  pub read_short : is_read l ≡ true → length line ≤ 3000
  read_short r = elim (dec_lt limit (length line)) [
    | yes h ↦ never (sym r ∙ ap is_read (sym e ∙ line_long line h))
    | no h ↦ omega arith
  ]

  -- and its spans are parts of it
  pub read-spans : All (HexSpan line) (spans_of l)
  read-spans = rw e at (line_spans line)
