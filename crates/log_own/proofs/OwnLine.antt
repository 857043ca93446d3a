-- An `own` line. Assumes nothing.
use Prim.Native.Nat.{ℕ, ◌-◌, ◌≤◌, ◌<◌}
use mathlib.Core.Path.{◌≡◌, refl, sym, ap, ◌∙◌}
use mathlib.Core.Bool.{true, false, cond}
use mathlib.Core.List.{◌++◌}
use native.Mathlib.Omega.{arith}
use borrow.Author.Tests.{ne_eqb, le-leb, lt-leb, leb-true}
use lib.Dec.{eqb, leb}
use lib.ListN.{length, take, drop, replicate, length-replicate}
use lib.Seq.{length-take-le}
use Rattle.octets.specs.Octets.{Bytes, store}
use Rattle.lists.proofs.Laws.{by_test, and_left, and_right}
use Rattle.keccak.specs.Sponge.{keccak256}
use Rattle.keccak.proofs.Laws.{keccak256-length}
use Rattle.bucket_model.specs.Contents.{no_contents}
use Rattle.table_model.specs.Layout.{offset_of}
use Rattle.table_model.proofs.Table.{length-table}
use Rattle.table_model.proofs.Sound.{sized-table}
use Rattle.table_model.proofs.Fresh.{fresh_form}
use Rattle.table.specs.Init.{init_answer, init_table, fresh_table}
use Rattle.table.proofs.Fresh.{room}
use Rattle.log_answer.specs.AnswerRows.{answer_room, number_row}
use Rattle.log_state.specs.declared.Replay.{Replay}
use Rattle.log_own.specs.declared.Made.{Made}
use Rattle.log_own.specs.OwnLine.{is_count, own_number, own_answer, own_after, Taken}
use Rattle.log_state.specs.State.{State, size_of, state_of, Answered}
use Rattle.log_state.proofs.Memory.{size_some, size_most, size_fits, front-stored, front-is, front_same, front_part}

pub length-fresh : (key : Bytes) (count : ℕ) → 1 ≤ count → count ≤ 256 → length (fresh_table key count) ≡ offset_of count
length-fresh key count one most =
    let own : Bytes = keccak256 key in
    let form = fresh_form own count (keccak256-length key) one most in
    length-table own 0 (replicate count no_contents) (keccak256-length key) (sized-table own 0 (replicate count no_contents) form)
    ∙ ap offset_of (length-replicate count no_contents)

-- ---- the number of the first one, and the memory after it

module _ (buckets : ℕ) (key : Bytes) where
  pub too_few : buckets < 1 → 1 ≡ own_number buckets key
  unfolding own_number
  too_few h = rw (lt-leb 1 buckets h)

  pub too_many : 16 < buckets → 1 ≡ own_number buckets key
  unfolding own_number
  too_many h =
      let one : leb 1 buckets ≡ true = le-leb 1 buckets (omega arith) in
      rw (one, lt-leb buckets 16 h)

  -- accepted: the count is in range
  pub accepted-count : own_number buckets key ≡ 0 → (1 ≤ buckets) × (buckets ≤ 16)
  unfolding own_number
  accepted-count =
      by_test (is_count buckets)
      (λ t. λ _. (leb-true 1 buckets (and_left (leb 1 buckets) (leb buckets 16) t), leb-true buckets 16 (and_right (leb 1 buckets) (leb buckets 16) t)))
      (λ t. rw t (λ z. absurd (omega arith)))

  module _ (one : 1 ≤ buckets) (most : buckets ≤ 16) where
    -- a table of that many buckets in as many bytes
    same_number : (s : Bytes) → length s ≡ offset_of buckets → init_answer s key buckets ≡ own_number buckets key
    unfolding init_answer own_number
    same_number s n =
        rw (room buckets s one (omega arith) n, le-leb 1 buckets one, le-leb buckets 16 most) refl

    -- the memory after it, where its first bytes come back as v
    pub made : (m v : Bytes) (r : ℕ) → 46304 ≤ length m → r ≡ init_answer (take (offset_of buckets - 0) (drop 0 m)) key buckets
        → v ≡ init_table (take (offset_of buckets - 0) (drop 0 m)) key buckets → length v ≡ length (take (offset_of buckets - 0) (drop 0 m))
        → (r ≡ own_number buckets key)
        × (take 0 m ++ (v ++ drop (offset_of buckets - 0) (drop 0 m)) ≡ cond (eqb r 0) (store m 0 (fresh_table key buckets)) m)
    unfolding init_table
    made m v r big er ev kept =
        let n : ℕ = offset_of buckets in
        let s : Bytes = take (n - 0) (drop 0 m) in
        let fits : n ≤ length m = omega arith in
        let size : length s ≡ n = ap length (front_part m n) ∙ length-take-le n m fits in (
          er ∙ same_number s size,
          front-stored m n fits v (kept ∙ size)
              ∙ ap (store m 0) ev
              ∙ rw er
              (by_test (eqb (init_answer s key buckets) 0)
              (λ t. rw t refl)
              (λ t. rw t (ap (store m 0) (front_part m n) ∙ front_same m n fits))),
        )

-- ---- the line

module _ (replay : Replay) (memory : Bytes) (big : 46304 ≤ length memory) (few : replay.count ≤ 16) (buckets : ℕ) (key : Bytes) (k : ℕ) where
  -- after a well-formed one
  pub own-again : replay.owned ≡ true → k ≡ 21 → Taken (state_of replay memory) buckets key memory (record { replay = replay; number = k }) memory
  unfolding own_after own_answer
  own-again o e =
      record {
        state = rw o refl;
        bytes = rw o (sym (front_same memory (size_of replay.count) (size_fits replay memory big few)));
        number = rw o e;
        count = few;
      }

  -- the first one is accepted
  pub own-accepted : {m' : Bytes} → replay.owned ≡ false → k ≡ own_number buckets key → k ≡ 0
      → m' ≡ cond (eqb k 0) (store memory 0 (fresh_table key buckets)) memory
      → Taken (state_of replay memory) buckets key memory (record { replay = record { owned = true; count = buckets }; number = k }) m'
  unfolding own_after own_answer
  own-accepted {m'} o e z em =
      let zero : own_number buckets key ≡ 0 = sym e ∙ z in
      let counts = accepted-count buckets key zero in
      let size : length (fresh_table key buckets) ≡ offset_of buckets = length-fresh key buckets counts.0 (omega (arith, counts.1)) in
      let offset : offset_of buckets ≡ size_of buckets = size_some buckets (λ w. absurd (omega (arith, counts.0))) in
      let back : m' ≡ store memory 0 (fresh_table key buckets) = rw z at em in
      let there : take (size_of buckets) m' ≡ fresh_table key buckets =
      ap (take (size_of buckets)) back ∙ front-is memory (size_of buckets) (omega (arith, size_most buckets counts.1)) (fresh_table key buckets) (size ∙ offset) in
      record {
        state = rw (o, zero) (ap (λ t. record { owned = true; table = t }) there);
        bytes = rw (o, zero) back;
        number = rw o e;
        count = counts.1;
      }

  -- or refused
  pub own-refused : {m' : Bytes} → replay.owned ≡ false → k ≡ own_number buckets key → (k ≡ 0 → ⊥)
      → m' ≡ cond (eqb k 0) (store memory 0 (fresh_table key buckets)) memory
      → Taken (state_of replay memory) buckets key memory (record { replay = record { owned = true; count = replay.count }; number = k }) m'
  unfolding own_after own_answer
  own-refused {m'} o e z em =
      let no : eqb k 0 ≡ false = ne_eqb k 0 z in
      let no' : eqb (own_number buckets key) 0 ≡ false = ap (λ x. eqb x 0) (sym e) ∙ no in
      let back : m' ≡ memory = rw no at em in
      record {
        state = rw (o, no') (ap (λ m. record { owned = true; table = take (size_of replay.count) m }) back);
        bytes = rw (o, no') (back ∙ sym (front_same memory (size_of replay.count) (size_fits replay memory big few)));
        number = rw o e;
        count = few;
      }

-- the number of an `own` that was taken is written
pub own_written : {st : State} {buckets : ℕ} {key memory m' out out' : Bytes} {r : Made} {n : ℕ} → Taken st buckets key memory r m'
    → (n ≡ length (number_row r.number)) × ((out' ≡ store out 0 (number_row r.number)) × (n ≤ answer_room))
    → Answered (own_after st buckets key) (number_row (own_answer st buckets key)) memory out (record { replay = r.replay; len = n }) m' out'
own_written {out = out} t w =
    record {
      state = t.state;
      bytes = t.bytes;
      len = w.0 ∙ ap (λ x. length (number_row x)) t.number;
      written = w.1.0 ∙ ap (λ x. store out 0 (number_row x)) t.number;
      count = t.count;
      room = w.1.1;
    }
