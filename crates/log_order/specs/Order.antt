-- Two logs of one box that differ only in the order of lines of one millisecond and different buckets (document 02, C-19) end with the same
-- printout, and each line's answer is the same up to place.
use Rattle.std.specs.Prelude.{ℕ, ◌≡◌, Bool, true, false, not}
use mathlib.Core.List.{List, [], ◌∷◌, ◌++◌, map, flat_map}
use Rattle.octets.specs.Octets.{Bytes}
use Rattle.lists.specs.Lists.{select, All}
use Rattle.text.specs.Lines.{lines_of}
use Rattle.printout.specs.Printout.{printout}
use Rattle.call_history.specs.Model.{Env, Call, Table}
use Rattle.call_order.specs.Order.{has_bucket, is_of_bucket, Merges}
use Rattle.log_lines.specs.Lines.{Held, held}
use Rattle.log_answer.specs.AnswerRows.{number_row}
use Rattle.log_state.specs.State.{State, start_state}
use Rattle.log_history.specs.Past.{Asked, own, call, unreadable, asked, running, nothing_read, read_all}
use Rattle.log_replay.specs.Replay.{answer, after, replayed}

-- ---- the lines of a log

abbrev pub lines_in : Bytes → List Held
lines_in log = map held (lines_of log)

-- the calls that lines ask for; an `own` and a line of no form ask for none
abbrev pub calls_of : List Asked → List Call
calls_of [] = []
calls_of (own buckets key ∷ more) = calls_of more
calls_of (call c ∷ more) = c ∷ calls_of more
calls_of (unreadable ∷ more) = calls_of more

-- the state that lines lead to
abbrev pub after_lines : State → List Held → State
after_lines st [] = st
after_lines st (l ∷ ls) = after_lines (after st l) ls

-- each line, by what it asks for, with the row that answers it
abbrev pub rows_from : State → List Held → List (Asked × Bytes)
rows_from st [] = []
rows_from st (l ∷ ls) = (asked l, answer st l) ∷ rows_from (after st l) ls

abbrev pub rows_of : Bytes → List (Asked × Bytes)
rows_of log = rows_from start_state (lines_in log)

abbrev pub written : List (Asked × Bytes) → Bytes
written rows = flat_map (λ v. v.1) rows

-- ---- the claim

-- two recordings of one box: they begin with the same lines, an accepted `own` among them, and the calls of the lines after these are merges. Lines
-- that ask for no call may stand anywhere.
pub record Recordings (log other : Bytes) : Type 0 where
  pub start : List Held
  pub lines : List Held
  pub others : List Held
  pub first : lines_in log ≡ start ++ lines
  pub second : lines_in other ≡ start ++ others
  -- the rules for the accepted `own`, and the table that the start led to
  pub rules : Env
  pub table : Table
  pub opened : (read_all nothing_read (map asked start)).stage ≡ running rules table
  pub merges : Merges rules (calls_of (map asked lines)) (calls_of (map asked others))

-- the line asks for a call that passes the test
abbrev pub asks : (Call → Bool) → Asked → Bool
asks q (own buckets key) = false
asks q (call c) = q c
asks q unreadable = false

-- the rows of such lines, in their order
abbrev pub rows_with : (Call → Bool) → List (Asked × Bytes) → List (Asked × Bytes)
rows_with q rows = select (λ v. asks q v.0) rows

-- a line that asks for no call gets 21
abbrev pub Unasked : Asked × Bytes → Type 0
Unasked v = asks (λ c. true) v.0 ≡ false → v.1 ≡ number_row 21

pub record PrintAlike (log other : Bytes) (r : Recordings log other) : Type 0 where
  -- the table that both end with
  pub table : Bytes
  pub first : replayed log ≡ written (rows_of log) ++ printout table
  pub second : replayed other ≡ written (rows_of other) ++ printout table
  -- the rows of each bucket's lines are the same, and those of the call lines without a kept bucket
  pub of_bucket : (i : ℕ) → rows_with (is_of_bucket r.rules i) (rows_of log) ≡ rows_with (is_of_bucket r.rules i) (rows_of other)
  pub of_none : rows_with (λ c. not (has_bucket r.rules c)) (rows_of log) ≡ rows_with (λ c. not (has_bucket r.rules c)) (rows_of other)
  -- any other line after the start gets 21, wherever it stands
  pub unasked : All Unasked (rows_from (after_lines start_state r.start) r.lines) × All Unasked (rows_from (after_lines start_state r.start) r.others)

abbrev pub LogsAlike : Type 0
LogsAlike = (log other : Bytes) (r : Recordings log other) → PrintAlike log other r
