-- Writing a line from the start of the lent bytes, in at most `answer_room` of them. Assumes nothing.
use Prim.Native.Nat.{ℕ, ◌+◌, ◌≤◌}
use mathlib.Core.Path.{◌≡◌}
use mathlib.Core.List.{List, []}
use native.Mathlib.Omega.{arith}
use lib.ListN.{length}
use mir.Val.{Val}
use denote.Laws.{Is}
use denote.Enum.Declared as DE
use denote.Enum.Laws as Le
use Rattle.octets.specs.Octets.{Bytes, store}
use Rattle.entry.specs.declared.PingState.{PingState}
use Rattle.entry.specs.declared.PingState.TheVariants.{Quiet, Out}
use Rattle.entry.specs.contracts.PingState as PS
use Rattle.entry.proofs.PingState.TheLaws as PS'
use Rattle.entry.proofs.Laws.{PingFits}
use Rattle.text.specs.Rows.{row}
use Rattle.log_answer.specs.AnswerRows.{answer_room}
use Rattle.printout_rows.proofs.Rows.{pieces, total, length-row, Writing, begin, end}

module _ (d first : Bytes) (more : List Bytes) (fits : length first + total more + 1 ≤ answer_room) where
  pub begin-line : answer_room ≤ length d → Writing d 0 first more (pieces first more) d 0
  begin-line h = begin d 0 first more (omega (arith, length-row first more, fits, h))

  pub end_line : {d' : Bytes} {n : ℕ} → Writing d 0 first more [] d' n → (n ≡ length (row first more)) × ((d' ≡ store d 0 (row first more)) × (n ≤ answer_room))
  end_line p = let w = end d 0 first more p in (omega (arith, w.0), (w.1, omega (arith, w.0, length-row first more, fits)))

-- the millisecond of a ping state that is passed by value fits 64 bits
pub ping_fits : (p : PingState) (vs : List Val) → Is (DE.row PS.the_type) p vs → PingFits p
ping_fits Quiet vs h = tt
ping_fits (Out t) vs h = (Le.owed PS.the_type PS'.the_laws (Out t) vs h).0.1.1.0.1
