-- After any lines the table is none, or a sound one that the rules led to. Assumes nothing.
use Prim.Native.Nat.{ℕ, ◌+◌, ◌-◌, ◌*◌, ◌≤◌}
use mathlib.Core.Path.{◌≡◌, refl, sym, ap, ◌∙◌}
use mathlib.Core.Bool.{Bool, true}
use mathlib.Core.List.{[]}
use native.Mathlib.Omega.{arith}
use borrow.Author.Tests.{eqb-true}
use lib.Dec.{eqb}
use lib.ListN.{length, take, drop}
use lib.Seq.{length-take-le}
use Rattle.octets.specs.Octets.{Bytes, Slice}
use Rattle.lists.proofs.Laws.{by_test}
use Rattle.text.proofs.Hex.{bytes_unhex}
use Rattle.keccak.specs.Sponge.{keccak256}
use Rattle.keccak.proofs.Laws.{keccak256-length, keccak256_bytes}
use Rattle.log_lines.specs.Lines.{Held, whole, too_long}
use Rattle.packet_span.specs.declared.Span.{Span}
use Rattle.log_line.specs.declared.Line.{Line}
use Rattle.log_line.specs.declared.Line.TheVariants.{Own, Rx, Sent, Sweep, Unreadable}
use Rattle.log_line.specs.Fields.{text, said}
use Rattle.log_line.specs.Forms.{line_of}
use Rattle.log_line.proofs.Decoded.{said_size}
use Rattle.log_line.proofs.Numbers.{Numbers, line-numbers}
use Rattle.table_model.specs.Layout.{count_of, offset_of}
use Rattle.table_model.specs.Sound.{table_sound}
use Rattle.table_model.proofs.Table.{length-table}
use Rattle.table_model.specs.Facts.{SoundTable}
use Rattle.table_model.proofs.Sound.{sized-table, count-back, form_is_sound}
use Rattle.table.specs.Init.{fresh_table}
use Rattle.call_history.specs.Model.{Env, Call, datagram, ping_sent, sweep, Table, fresh, next}
use Rattle.call_history.specs.Keccak.{with_keccak}
use Rattle.call_history.specs.Chain.{IsCall}
use Rattle.call_history.proofs.Step.{keccak_lawful}
use Rattle.call_history.proofs.Sound.{TableSound, IsTable, fresh_sound, fresh-values, next-sound, next-values}
use Rattle.call_model.specs.Calls.{bytes_after}
use Rattle.call_model.specs.IfAny.{sound_if_any}
use Rattle.call_model.specs.Reading.{reading}
use Rattle.call_model.specs.OverBytes.{encode}
use Rattle.call_model.proofs.Form.{table-form}
use Rattle.call_model.proofs.IfAny.{sound-any}
use Rattle.call_model.proofs.Step.{step_follows}
use Rattle.log_state.specs.declared.Replay.{Replay}
use Rattle.log_state.specs.State.{State, size_of, state_of}
use Rattle.log_own.specs.OwnLine.{own_number, own_answer, own_after}
use Rattle.log_state.proofs.Memory.{size_some, size_fits, front_part}
use Rattle.log_own.proofs.OwnLine.{accepted-count}
use Rattle.log_replay.specs.Replay.{line_after, after, Reached, start, line as reached-line}
use Rattle.log_replay.proofs.Fields.{is_read, read_short}
use Rattle.log_replay.proofs.Lines.{no_table_bytes}

abbrev rules : Bytes → ℕ → Env
rules key count = with_keccak reading (keccak256 key) count

-- the byte form of a table that the rules allow, of at most 16 buckets
pub record Follows (s : Bytes) : Type 0 where
  pub key : Bytes
  pub count : ℕ
  pub one : 1 ≤ count
  pub most : count ≤ 16
  pub table : Table
  pub sound : TableSound (rules key count) table
  pub values : IsTable (rules key count) table
  pub form : s ≡ encode (keccak256 key) table

pub data Good (st : State) : Type 0 where
  none : st.table ≡ [] → Good st
  some : Follows st.table → Good st

-- ---- a fresh table, and a call

fresh_follows : (key : Bytes) (count : ℕ) → 1 ≤ count → count ≤ 16 → Follows (fresh_table key count)
fresh_follows key count one most =
    record {
      key = key;
      count = count;
      one = one;
      most = most;
      table = fresh (rules key count);
      sound = fresh_sound (rules key count) (keccak_lawful reading (keccak256 key) count (keccak256-length key) (keccak256_bytes key));
      values = fresh-values (rules key count);
      form = refl;
    }

call_follows : (s : Bytes) → Follows s → (c : Call) → IsCall c → Follows (bytes_after reading s c)
call_follows s f c is =
    let e : Env = rules f.key f.count in
    record {
      key = f.key;
      count = f.count;
      one = f.one;
      most = f.most;
      table = next e f.table c;
      sound = next-sound e f.table f.sound c;
      values = next-values e f.table f.sound f.values c is;
      form =
          ap (λ m. bytes_after reading m c) f.form
          ∙ (step_follows reading (keccak256 f.key) f.count f.one (omega (arith, f.most)) f.table c f.sound f.values is).1;
    }

-- ---- a line

call_good : (owned : Bool) (s : Bytes) (c : Call) → IsCall c → Good (record { owned = owned; table = s }) → Good (record { owned = owned; table = bytes_after reading s c })
call_good owned s c is (none e) = none (ap (λ m. bytes_after reading m c) e ∙ no_table_bytes c)
call_good owned s c is (some f) = some (call_follows s f c is)

own_good : (st : State) (buckets : ℕ) (key : Bytes) → Good st → Good (own_after st buckets key)
unfolding own_after own_answer
own_good st buckets key g =
    by_test st.owned
    (λ o. rw o (kept g))
    (λ o.
    by_test (eqb (own_number buckets key) 0)
    (λ z.
    let counts = accepted-count buckets key (eqb-true (own_number buckets key) 0 z) in
    rw (o, z) (some (fresh_follows key buckets counts.0 counts.1)))
    (λ z. rw (o, z) (kept g)))
  where
    kept : Good st → Good (record { owned = true; table = st.table })
    kept (none e) = none e
    kept (some f) = some f

module _ (line : Bytes) where
  pub slice-said : length line ≤ 3000 → (f : Span) → Slice (said line f)
  unfolding said
  slice-said h f = record { bytes = bytes_unhex (text line f); size = omega (arith, said_size line f h) }

  by_kind : (st : State) → Good st → (l : Line) → Numbers l → (is_read l ≡ true → length line ≤ 3000) → Good (line_after st line l)
  unfolding line_after
  by_kind st g (Own buckets key) n short = own_good st buckets (said line key) g
  by_kind st g (Rx now unix address port signer bytes) n short =
      let is = slice-said (short refl) in
      call_good st.owned st.table (datagram now unix (said line address) port (said line signer) (said line bytes))
      (n.0, n.1, is address, n.2, is signer, is bytes) g
  by_kind st g (Sent now key address udp tcp hash) n short =
      let is = slice-said (short refl) in
      call_good st.owned st.table (ping_sent now (said line key) (said line address) udp tcp (said line hash))
      (n.0, is key, is address, n.1, n.2, is hash) g
  by_kind st g (Sweep now) n short = call_good st.owned st.table (sweep now) n g
  by_kind st g Unreadable n short = g

pub good_after : (st : State) → Good st → (l : Held) → Good (after st l)
unfolding after
good_after st g (whole line) = by_kind line st g (line_of line) (line-numbers line) (λ r. read_short line (line_of line) refl r)
good_after st g too_long = g

pub reached_good : {st : State} → Reached st → Good st
reached_good start = none refl
reached_good (reached-line {st = st} r l) = good_after st (reached_good r) l

-- ---- what the next line's call, and the printout, find

pub follows_sound : (s : Bytes) → Follows s → (table_sound s ≡ true) × ((count_of s ≤ 16) × (length s ≡ offset_of (count_of s)))
follows_sound s f =
    let own : Bytes = keccak256 f.key in
    let t : Table = f.table in
    let form : SoundTable own t.clock t.buckets = table-form reading own f.count f.one (omega (arith, f.most)) t f.sound f.values in
    let count : count_of s ≡ length t.buckets = ap count_of f.form ∙ count-back own t.clock t.buckets form in (
      ap table_sound f.form ∙ form_is_sound own t.clock t.buckets form,
      (
        omega (arith, count, f.sound.sized, f.most),
        ap length f.form ∙ length-table own t.clock t.buckets form.own_size (sized-table own t.clock t.buckets form) ∙ ap offset_of (sym count),
      ),
    )

good_any : (st : State) → Good st → sound_if_any st.table ≡ true
good_any st (none e) = ap sound_if_any e
good_any st (some f) = sound-any st.table (follows_sound st.table f).0

-- the part of the memory that the next line's call gets
pub lent_sound : (replay : Replay) (memory : Bytes) (z : ℕ) → z ≡ size_of replay.count → Reached (state_of replay memory)
    → sound_if_any (take (z - 0) (drop 0 memory)) ≡ true
lent_sound replay memory z e r =
    ap sound_if_any (front_part memory z ∙ ap (λ (k : ℕ). take k memory) e) ∙ good_any (state_of replay memory) (reached_good r)

-- where an `own` was accepted, the table is sound, and the replay has its count
pub good_table : (replay : Replay) (memory : Bytes) → 46304 ≤ length memory → replay.count ≤ 16 → (replay.count ≡ 0 → ⊥) → Good (state_of replay memory)
    → (table_sound (take (size_of replay.count) memory) ≡ true) × (count_of (take (size_of replay.count) memory) ≡ replay.count)
good_table replay memory big few some-count g =
    let n : ℕ = size_of replay.count in
    let offset : 512 + replay.count * 2862 ≡ n = size_some replay.count some-count in
    let size : length (take n memory) ≡ n = length-take-le n memory (size_fits replay memory big few) in
    by_state g size offset
  where
    by_state : Good (state_of replay memory) → length (take (size_of replay.count) memory) ≡ size_of replay.count → 512 + replay.count * 2862 ≡ size_of replay.count
        → (table_sound (take (size_of replay.count) memory) ≡ true) × (count_of (take (size_of replay.count) memory) ≡ replay.count)
    by_state (none e) size offset = absurd (omega (arith, ap length e, size, offset))
    by_state (some f) size offset =
        let h = follows_sound (take (size_of replay.count) memory) f in
        (h.0, omega (arith, h.1.1, size, offset))
