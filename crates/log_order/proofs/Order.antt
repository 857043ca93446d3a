-- Two recordings of one box are replayed alike. Assumes nothing.
use Prim.Native.Nat.{ℕ, ◌≤◌}
use mathlib.Core.Path.{◌≡◌, refl, sym, ap, ◌∙◌}
use mathlib.Core.Bool.{Bool, true, false, not}
use mathlib.Core.List.{List, [], ◌∷◌, ◌++◌, map}
use native.Mathlib.Omega.{arith}
use lib.ListN.{length}
use Rattle.octets.specs.Octets.{Bytes}
use Rattle.lists.specs.Lists.{select}
use Rattle.lists.proofs.Laws.{never, select-append}
use Rattle.keccak.specs.Sponge.{keccak256}
use Rattle.table_model.proofs.Table.{length-table}
use Rattle.table_model.proofs.Sound.{sized-table}
use Rattle.printout.specs.Printout.{printout}
use Rattle.call_history.specs.Model.{Env, Call, datagram, ping_sent, sweep, closest, unclocked, Table}
use Rattle.call_history.specs.Keccak.{with_keccak}
use Rattle.call_history.specs.Chain.{IsCall}
use Rattle.call_model.specs.Reading.{reading}
use Rattle.call_model.specs.OverBytes.{encode}
use Rattle.call_model.proofs.Form.{table-form}
use Rattle.call_order.specs.Order.{has_bucket, is_of_bucket, Merges, answered, EndAlike}
use Rattle.call_order.specs.Order as order
use Rattle.call_order.proofs.Lists.{Commutes, kept-after, merges-alike}
use Rattle.call_order.proofs.Bytes.{SameAnswer, IsForm, form-left, bytes-either, answer-either}
use Rattle.log_lines.specs.Lines.{Held}
use Rattle.log_answer.specs.AnswerRows.{number_row}
use Rattle.log_received.specs.AnswerLine.{received_row}
use Rattle.log_state.specs.State.{State, start_state}
use Rattle.log_history.specs.Past.{asked, Stage, running, rules_for, nothing_read}
use Rattle.log_replay.specs.Replay.{ending, replayed}
use Rattle.log_run.specs.Run.{start}
use Rattle.log_run.proofs.Kept.{Kept, none, some, kept}
use Rattle.log_order.specs.Order.{lines_in, calls_of, after_lines, rows_from, rows_of, written, Recordings, asks, rows_with, PrintAlike, LogsAlike}
use Rattle.log_order.proofs.Lines.{at, row, left, lines_left, as_row, lines_rows, lines_not_called, lines_calls, rows_append, after-append, output_is, same_lines}

-- ---- a table that lines led to

-- the state is that of a sound table under these rules
record Opened (e : Env) (st : State) : Type 0 where
  pub key : Bytes
  pub count : ℕ
  pub one : 1 ≤ count
  pub most : count ≤ 256
  pub rules : e ≡ rules_for count key
  pub table : Bytes
  pub form : IsForm (keccak256 key) count one most table
  pub is : st ≡ at table

opened_by : (e : Env) (t : Table) (st : State) (g : Stage) → Kept st g → g ≡ running e t → Opened e st
opened_by e t st g (none owned) h = never (let y : true ≡ false = cc in y)
opened_by e t st g (some key count one most t' sound values) h =
    record {
      key = key;
      count = count;
      one = one;
      most = omega arith;
      rules = cc;
      table = encode (keccak256 key) t';
      form = record { table = t'; sound = sound; values = values; is = refl };
      is = refl;
    }

-- it is printed
printed : (s : Bytes) → 1 ≤ length s → ending (at s) ≡ printout s
printed [] h = absurd (omega arith)
printed (b ∷ s) h = refl

module _ (own : Bytes) (count : ℕ) (one : 1 ≤ count) (most : count ≤ 256) where
  abbrev e : Env
  e = with_keccak reading own count

  abbrev Ok : Bytes → Type 0
  Ok s = IsForm own count one most s

  ending-is : (s : Bytes) → Ok s → ending (at s) ≡ printout s
  ending-is s f =
      let t = f.table in
      let form = table-form reading own count one most t f.sound f.values in
      let size = length-table own t.clock t.buckets form.own_size (sized-table own t.clock t.buckets form) in
      printed s (omega (arith, ap length f.is, size))

  -- ---- two calls

  same_row : (s s' : Bytes) (c : Call) → has_bucket e c ≡ true → SameAnswer s s' c → row s' c ≡ row s c
  same_row s s' (datagram now unix address udp key bytes) has h = ap received_row h
  same_row s s' (ping_sent now key address udp tcp hash) has h = ap number_row h
  same_row s s' (sweep now) has h = never (sym has)
  same_row s s' (closest target room) has h = never (sym has)
  same_row s s' (unclocked c) has h = never (sym has)

  commutes : Commutes row left e Ok IsCall
  commutes =
      record {
        kept = λ s c is ok. form-left own count one most s c is ok;
        either = λ s ok t c d is_c is-d in_c in-d apart. record {
          state = bytes-either own count one most s ok t c d is_c is-d in_c in-d apart;
          first = same_row s (left s d) c in_c.1 (answer-either own count one most s ok t c d is_c is-d in_c in-d apart);
          second = same_row s (left s c) d in-d.1 (answer-either own count one most s ok t d c is-d is_c in-d in_c (λ i h g. apart i g h));
        };
      }

  lines-kept : (s : Bytes) → Ok s → (ls : List Held) → Ok (order.after row left s (calls_of (map asked ls)))
  lines-kept s ok ls = kept-after row left e Ok IsCall commutes s ok (calls_of (map asked ls)) (lines_calls ls)

  lines-alike : (s : Bytes) → Ok s → (ls ms : List Held) → Merges e (calls_of (map asked ls)) (calls_of (map asked ms))
      → EndAlike row left e s (calls_of (map asked ls)) (calls_of (map asked ms))
  lines-alike s ok ls ms m = merges-alike row left e Ok IsCall commutes m (lines_calls ls) (lines_calls ms) s ok

-- ---- a log that begins with lines which led to the table s

module _ (log : Bytes) (begun ls : List Held) (s : Bytes) (are : lines_in log ≡ begun ++ ls) (to : after_lines start_state begun ≡ at s) where
  abbrev calls : List Call
  calls = calls_of (map asked ls)

  rows_are : (q : Call → Bool) → rows_with q (rows_of log) ≡ rows_with q (rows_from start_state begun) ++ map as_row (select (λ v. q v.0) (answered row left s calls))
  rows_are q =
      ap (λ l. rows_with q (rows_from start_state l)) are
      ∙ ap (rows_with q) (rows_append start_state begun ls)
      ∙ select-append (λ v. asks q v.0) (rows_from start_state begun) (rows_from (after_lines start_state begun) ls)
      ∙ ap (λ st. rows_with q (rows_from start_state begun) ++ rows_with q (rows_from st ls)) to
      ∙ ap (λ l. rows_with q (rows_from start_state begun) ++ l) (lines_rows q s ls)

  replayed-is : replayed log ≡ written (rows_of log) ++ ending (at (order.after row left s calls))
  unfolding replayed
  replayed-is =
      output_is start_state (lines_in log)
      ∙ ap (λ st. written (rows_of log) ++ ending st)
      (ap (after_lines start_state) are ∙ after-append start_state begun ls ∙ ap (λ st. after_lines st ls) to ∙ lines_left s ls)

-- ---- two recordings

module _ (log other : Bytes) (r : Recordings log other) (s : Bytes) (to : after_lines start_state r.start ≡ at s) where
  abbrev first : List Call
  first = calls_of (map asked r.lines)

  abbrev second : List Call
  second = calls_of (map asked r.others)

  same_rows : (q : Call → Bool) → select (λ v. q v.0) (answered row left s first) ≡ select (λ v. q v.0) (answered row left s second)
      → rows_with q (rows_of log) ≡ rows_with q (rows_of other)
  same_rows q h =
      rows_are log r.start r.lines s r.first to q
      ∙ ap (λ l. rows_with q (rows_from start_state r.start) ++ map as_row l) h
      ∙ sym (rows_are other r.start r.others s r.second to q)

  print-alike : EndAlike row left r.rules s first second → ending (at (order.after row left s first)) ≡ printout (order.after row left s first)
      → PrintAlike log other r
  print-alike alike ends =
      record {
        table = order.after row left s first;
        first = replayed-is log r.start r.lines s r.first to ∙ ap (λ l. written (rows_of log) ++ l) ends;
        second =
            replayed-is other r.start r.others s r.second to
            ∙ ap (λ x. written (rows_of other) ++ ending (at x)) (sym alike.state)
            ∙ ap (λ l. written (rows_of other) ++ l) ends;
        of_bucket = λ i. same_rows (is_of_bucket r.rules i) (alike.answers i);
        of_none = same_rows (λ c. not (has_bucket r.rules c)) alike.others;
        unasked = rw to (lines_not_called s r.lines, lines_not_called s r.others);
      }

from_opened : (log other : Bytes) (r : Recordings log other) → Opened r.rules (after_lines start_state r.start) → PrintAlike log other r
from_opened log other r o =
    let own : Bytes = keccak256 o.key in
    let calls : List Call = calls_of (map asked r.lines) in
    print-alike log other r o.table o.is
    (rw o.rules (lines-alike own o.count o.one o.most o.table o.form r.lines r.others (rw o.rules at r.merges)))
    (ending-is own o.count o.one o.most (order.after row left o.table calls)
    (lines-kept own o.count o.one o.most o.table o.form r.lines))

pub logs_alike : LogsAlike
logs_alike log other r =
    from_opened log other r
    (opened_by r.rules r.table (after_lines start_state r.start) _ (kept (same_lines start_state nothing_read start r.start)) r.opened)
