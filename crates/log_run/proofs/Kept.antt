-- Where the same lines led to the replay's state and to the past of the run, the state is none or the one form of a sound table. Assumes nothing.
use Prim.Native.Nat.{ℕ, ◌≤◌}
use mathlib.Core.Path.{◌≡◌, refl, sym, ap, ◌∙◌}
use mathlib.Core.Bool.{Bool, true, false, cond}
use mathlib.Core.List.{[]}
use native.Mathlib.Omega.{arith}
use borrow.Author.Tests.{eqb-true}
use lib.Dec.{eqb}
use lib.ListN.{length}
use Rattle.octets.specs.Octets.{Bytes}
use Rattle.lists.proofs.Laws.{by_test}
use Rattle.keccak.specs.Sponge.{keccak256}
use Rattle.keccak.proofs.Laws.{keccak256-length, keccak256_bytes}
use Rattle.table.specs.Init.{fresh_table}
use Rattle.call_history.specs.Model.{Env, Call, datagram, ping_sent, sweep, Table, fresh, next}
use Rattle.call_history.specs.Chain.{IsCall}
use Rattle.call_history.proofs.Step.{keccak_lawful}
use Rattle.call_history.proofs.Sound.{TableSound, IsTable, fresh_sound, fresh-values, next-sound, next-values}
use Rattle.call_model.specs.Calls.{answer_on, bytes_after}
use Rattle.call_model.specs.Reading.{reading}
use Rattle.call_model.specs.OverBytes.{encode}
use Rattle.call_model.proofs.Step.{step_follows}
use Rattle.log_lines.specs.Lines.{Held, whole, too_long}
use Rattle.log_line.specs.declared.Line.{Line}
use Rattle.log_line.specs.declared.Line.TheVariants.{Own, Rx, Sent, Sweep, Unreadable}
use Rattle.log_line.specs.Fields.{said}
use Rattle.log_line.specs.Forms.{line_of}
use Rattle.log_line.proofs.Numbers.{Numbers, line-numbers}
use Rattle.log_state.specs.State.{State}
use Rattle.log_own.specs.OwnLine.{own_number, own_answer, own_after}
use Rattle.log_own.proofs.OwnLine.{accepted-count}
use Rattle.log_history.specs.Past.{Asked, own, call, unreadable, asked_by, asked, Stage, before, running, rules_for, number_at, stage_after, Past}
use Rattle.log_replay.specs.Replay.{with_table, line_after, after}
use Rattle.log_replay.specs.Claims.{without_table}
use Rattle.log_replay.proofs.Fields.{is_read, read_short}
use Rattle.log_replay.proofs.Lines.{no_table_number, no_table_bytes}
use Rattle.log_replay.proofs.Kept.{slice-said}
use Rattle.log_run.specs.Run.{SameLines, start, line as next-line, Shows, number_on}

-- the state shows the stage, whose table the rules allow
pub data Kept : State → Stage → Type 0 where
  none : (owned : Bool) → Kept (without_table owned) (before owned)
  some : (key : Bytes) (count : ℕ) → 1 ≤ count → count ≤ 16 → (t : Table) → TableSound (rules_for count key) t → IsTable (rules_for count key) t
      → Kept (record { owned = true; table = encode (keccak256 key) t }) (running (rules_for count key) t)

-- after what was asked for, the state st' shows the stage, and the number is the stage's
abbrev Step : State → ℕ → Stage → Asked → Type 0
Step st' n g a = Kept st' (stage_after g a) × (n ≡ number_at g a)

call_step : (st : State) (g : Stage) → Kept st g → (c : Call) → IsCall c
    → Step (with_table st (bytes_after reading st.table c)) (answer_on reading st.table c) g (call c)
unfolding stage_after number_at
call_step st g (none owned) c is = (rw (no_table_bytes c) (none owned), no_table_number c)
call_step st g (some key count one most t sound values) c is =
    let e : Env = rules_for count key in
    let f = step_follows reading (keccak256 key) count one (omega arith) t c sound values is in
    (rw f.1 (some key count one most (next e t c) (next-sound e t sound c) (next-values e t sound values c is)), f.0)

first_own : (buckets : ℕ) (key : Bytes) → own_number buckets key ≡ 0
    → Kept (record { owned = true; table = fresh_table key buckets }) (running (rules_for buckets key) (fresh (rules_for buckets key)))
first_own buckets key zero =
    let counts = accepted-count buckets key zero in
    let e : Env = rules_for buckets key in
    some key buckets counts.0 counts.1 (fresh e)
    (fresh_sound e (keccak_lawful reading (keccak256 key) buckets (keccak256-length key) (keccak256_bytes key))) (fresh-values e)

own_step : (st : State) (g : Stage) → Kept st g → (buckets : ℕ) (key : Bytes)
    → Step (own_after st buckets key) (own_answer st buckets key) g (own buckets key)
unfolding stage_after number_at own_after own_answer
own_step st g (none true) buckets key = (none true, refl)
own_step st g (none false) buckets key =
    by_test (eqb (own_number buckets key) 0)
    (λ z. (rw z (first_own buckets key (eqb-true (own_number buckets key) 0 z)), refl))
    (λ z. (rw z (none true), refl))
own_step st g (some key count one most t sound values) buckets owner = (some key count one most t sound values, refl)

-- a call that is asked for has values of their types
abbrev pub AsksValues : Asked → Type 0
AsksValues (own buckets key) = Unit {0}
AsksValues (call c) = IsCall c
AsksValues unreadable = Unit {0}

module _ (line : Bytes) where
  values-asked : (l : Line) → Numbers l → (is_read l ≡ true → length line ≤ 3000) → AsksValues (asked_by line l)
  values-asked (Own buckets key) n short = tt
  values-asked (Rx now unix address port signer bytes) n short =
      let is = slice-said line (short refl) in
      (n.0, n.1, is address, n.2, is signer, is bytes)
  values-asked (Sent now key address udp tcp hash) n short =
      let is = slice-said line (short refl) in
      (n.0, is key, is address, n.1, n.2, is hash)
  values-asked (Sweep now) n short = n
  values-asked Unreadable n short = tt

  by_kind : (st : State) (g : Stage) → Kept st g → (l : Line) → AsksValues (asked_by line l)
      → Step (line_after st line l) (number_on st (asked_by line l)) g (asked_by line l)
  unfolding line_after stage_after number_at
  by_kind st g k (Own buckets key) is = own_step st g k buckets (said line key)
  by_kind st g k (Rx now unix address port signer bytes) is =
      call_step st g k (datagram now unix (said line address) port (said line signer) (said line bytes)) is
  by_kind st g k (Sent now key address udp tcp hash) is =
      call_step st g k (ping_sent now (said line key) (said line address) udp tcp (said line hash)) is
  by_kind st g k (Sweep now) is = call_step st g k (sweep now) is
  by_kind st g (none owned) Unreadable is = (none owned, refl)
  by_kind st g (some key count one most t sound values) Unreadable is = (some key count one most t sound values, refl)

pub asked_values : (l : Held) → AsksValues (asked l)
unfolding asked
asked_values (whole line) = values-asked line (line_of line) (line-numbers line) (λ r. read_short line (line_of line) refl r)
asked_values too_long = tt

-- a line more: the state shows the stage, and the replay's number is the run's
pub line_step : (st : State) (g : Stage) → Kept st g → (l : Held) → Kept (after st l) (stage_after g (asked l)) × (number_on st (asked l) ≡ number_at g (asked l))
unfolding after asked stage_after number_at
line_step st g k (whole line) = by_kind line st g k (line_of line) (asked_values (whole line))
line_step st g (none owned) too_long = (none owned, refl)
line_step st g (some key count one most t sound values) too_long = (some key count one most t sound values, refl)

pub kept : {st : State} {p : Past} → SameLines st p → Kept st p.stage
kept start = none false
kept (next-line {st = st} {p = p} r l) = (line_step st p.stage (kept r) l).0

-- the replay's number is the run's
pub same_number : {st : State} {p : Past} → SameLines st p → (l : Held) → number_on st (asked l) ≡ number_at p.stage (asked l)
same_number {st} {p} r l = (line_step st p.stage (kept r) l).1

pub kept_shows : (st : State) (g : Stage) → Kept st g → Shows st g
kept_shows st g (none owned) = refl
kept_shows st g (some key count one most t sound values) = refl
