-- Lines after an accepted `own`, by what they ask for. Assumes nothing.
use mathlib.Core.Path.{◌≡◌, refl, sym, ap, ◌∙◌}
use mathlib.Core.Bool.{Bool, true}
use mathlib.Core.List.{List, [], ◌∷◌, ◌++◌, map, flat_map, append_assoc}
use Rattle.octets.specs.Octets.{Bytes}
use Rattle.lists.specs.Lists.{select, All}
use Rattle.lists.proofs.Laws.{by_test, never}
use Rattle.call_history.specs.Model.{Call, datagram, ping_sent, sweep, closest, unclocked}
use Rattle.call_history.specs.Chain.{IsCall}
use Rattle.call_model.specs.Calls.{answer_on, bytes_after}
use Rattle.call_model.specs.Reading.{reading}
use Rattle.call_datagram.specs.Received.{received}
use Rattle.call_order.specs.Order.{answered}
use Rattle.call_order.specs.Order as order
use Rattle.log_lines.specs.Lines.{Held, whole, too_long}
use Rattle.log_line.specs.declared.Line.{Line}
use Rattle.log_line.specs.declared.Line.TheVariants.{Own, Rx, Sent, Sweep, Unreadable}
use Rattle.log_line.specs.Forms.{line_of}
use Rattle.log_answer.specs.AnswerRows.{number_row}
use Rattle.log_received.specs.AnswerLine.{received_row}
use Rattle.log_state.specs.State.{State}
use Rattle.log_own.specs.OwnLine.{own_answer, own_after}
use Rattle.log_history.specs.Past.{Asked, own, call, unreadable, asked_by, asked, Past, read_all}
use Rattle.log_replay.specs.Replay.{line_answer, line_after, answer, after, ending, output_from}
use Rattle.log_run.specs.Run.{SameLines, line}
use Rattle.log_run.proofs.Kept.{AsksValues, asked_values}
use Rattle.log_order.specs.Order.{calls_of, after_lines, rows_from, written, rows_with, Unasked}

-- the state where the table is s
abbrev pub at : Bytes → State
at s = record { owned = true; table = s }

-- the row that answers a call there, and the table that the call leaves
abbrev pub row : Bytes → Call → Bytes
row s (datagram now unix address udp key bytes) = received_row (received s now unix address udp key bytes)
row s (ping_sent now key address udp tcp hash) = number_row (answer_on reading s (ping_sent now key address udp tcp hash))
row s (sweep now) = number_row (answer_on reading s (sweep now))
row s (closest target room) = number_row (answer_on reading s (closest target room))
row s (unclocked c) = number_row (answer_on reading s (unclocked c))

abbrev pub left : Bytes → Call → Bytes
left s c = bytes_after reading s c

-- ---- a line is answered by what it asks for

abbrev row_at : Bytes → Asked → Bytes
row_at s (own buckets key) = number_row 21
row_at s (call c) = row s c
row_at s unreadable = number_row 21

abbrev left_at : Bytes → Asked → Bytes
left_at s (own buckets key) = s
left_at s (call c) = left s c
left_at s unreadable = s

by_kind : (s l : Bytes) (k : Line) → (line_answer (at s) l k ≡ row_at s (asked_by l k)) × (line_after (at s) l k ≡ at (left_at s (asked_by l k)))
unfolding line_answer line_after own_answer own_after
by_kind s l (Own buckets key) = (refl, refl)
by_kind s l (Rx now unix address port signer bytes) = (refl, refl)
by_kind s l (Sent now key address udp tcp hash) = (refl, refl)
by_kind s l (Sweep now) = (refl, refl)
by_kind s l Unreadable = (refl, refl)

by_asked : (s : Bytes) (l : Held) → (answer (at s) l ≡ row_at s (asked l)) × (after (at s) l ≡ at (left_at s (asked l)))
unfolding answer after asked
by_asked s (whole l) = by_kind s l (line_of l)
by_asked s too_long = (refl, refl)

abbrev rows_by : Bytes → List Asked → List (Asked × Bytes)
rows_by s [] = []
rows_by s (a ∷ more) = (a, row_at s a) ∷ rows_by (left_at s a) more

abbrev left_by : Bytes → List Asked → Bytes
left_by s [] = s
left_by s (a ∷ more) = left_by (left_at s a) more

rows-by : (s : Bytes) (ls : List Held) → rows_from (at s) ls ≡ rows_by s (map asked ls)
rows-by s [] = refl
rows-by s (l ∷ ls) = rw ((by_asked s l).0, (by_asked s l).1) (ap (λ m. (asked l, row_at s (asked l)) ∷ m) (rows-by (left_at s (asked l)) ls))

left-by : (s : Bytes) (ls : List Held) → after_lines (at s) ls ≡ at (left_by s (map asked ls))
left-by s [] = refl
left-by s (l ∷ ls) = rw (by_asked s l).1 (left-by (left_at s (asked l)) ls)

-- ---- the calls asked for

left_calls : (s : Bytes) (ks : List Asked) → left_by s ks ≡ order.after row left s (calls_of ks)
left_calls s [] = refl
left_calls s (own buckets key ∷ more) = left_calls s more
left_calls s (call c ∷ more) = left_calls (left s c) more
left_calls s (unreadable ∷ more) = left_calls s more

pub lines_left : (s : Bytes) (ls : List Held) → after_lines (at s) ls ≡ at (order.after row left s (calls_of (map asked ls)))
lines_left s ls = left-by s ls ∙ ap at (left_calls s (map asked ls))

abbrev pub as_row : Call × Bytes → Asked × Bytes
as_row v = (call v.0, v.1)

rows_calls : (q : Call → Bool) (s : Bytes) (ks : List Asked)
    → rows_with q (rows_by s ks) ≡ map as_row (select (λ v. q v.0) (answered row left s (calls_of ks)))
rows_calls q s [] = refl
rows_calls q s (own buckets key ∷ more) = rows_calls q s more
rows_calls q s (call c ∷ more) =
    by_test (q c) (λ h. rw h (ap (λ m. (call c, row s c) ∷ m) (rows_calls q (left s c) more))) (λ h. rw h (rows_calls q (left s c) more))
rows_calls q s (unreadable ∷ more) = rows_calls q s more

pub lines_rows : (q : Call → Bool) (s : Bytes) (ls : List Held)
    → rows_with q (rows_from (at s) ls) ≡ map as_row (select (λ v. q v.0) (answered row left s (calls_of (map asked ls))))
lines_rows q s ls = ap (rows_with q) (rows-by s ls) ∙ rows_calls q s (map asked ls)

-- a line that asks for no call
not_called : (s : Bytes) (ks : List Asked) → All Unasked (rows_by s ks)
not_called s [] = tt
not_called s (own buckets key ∷ more) = ((λ h. refl), not_called s more)
not_called s (call c ∷ more) = ((λ h. never h), not_called (left s c) more)
not_called s (unreadable ∷ more) = ((λ h. refl), not_called s more)

pub lines_not_called : (s : Bytes) (ls : List Held) → All Unasked (rows_from (at s) ls)
lines_not_called s ls = rw (rows-by s ls) (not_called s (map asked ls))

-- calls of lines are values of their types
pub lines_calls : (ls : List Held) → All IsCall (calls_of (map asked ls))
lines_calls [] = tt
lines_calls (l ∷ ls) = one (asked l) (asked_values l) (lines_calls ls)
  where
    one : (a : Asked) → AsksValues a → All IsCall (calls_of (map asked ls)) → All IsCall (calls_of (a ∷ map asked ls))
    one (own buckets key) is more = more
    one (call c) is more = (is, more)
    one unreadable is more = more

-- ---- lines from any state

pub rows_append : (st : State) (ls ms : List Held) → rows_from st (ls ++ ms) ≡ rows_from st ls ++ rows_from (after_lines st ls) ms
rows_append st [] ms = refl
rows_append st (l ∷ ls) ms = ap (λ m. (asked l, answer st l) ∷ m) (rows_append (after st l) ls ms)

pub after-append : (st : State) (ls ms : List Held) → after_lines st (ls ++ ms) ≡ after_lines (after_lines st ls) ms
after-append st [] ms = refl
after-append st (l ∷ ls) ms = after-append (after st l) ls ms

-- what they write
pub output_is : (st : State) (ls : List Held) → output_from st ls ≡ written (rows_from st ls) ++ ending (after_lines st ls)
unfolding flat_map
output_is st [] = refl
output_is st (l ∷ ls) =
    ap (λ m. answer st l ++ m) (output_is (after st l) ls)
    ∙ sym (append_assoc (answer st l) (written (rows_from (after st l) ls)) (ending (after_lines (after st l) ls)))

-- the same lines lead to the run's past
pub same_lines : (st : State) (p : Past) → SameLines st p → (ls : List Held) → SameLines (after_lines st ls) (read_all p (map asked ls))
same_lines st p r [] = r
same_lines st p r (l ∷ ls) = same_lines (after st l) (read_all p (asked l ∷ [])) (line r l) ls
