-- What a table tells, by the tests that led there. Assumes nothing.
use Prim.Native.Nat.{ℕ, ◌≤◌, ◌<◌}
use mathlib.Core.Path.{◌≡◌, refl, sym, ap, ◌∙◌}
use mathlib.Core.Bool.{true, false}
use borrow.Author.Tests.{lt-ltb, le-ltb}
use lib.Dec.{ltb}
use lib.ListN.{length}
use Rattle.octets.specs.Octets.{Bytes, store}
use Rattle.lists.proofs.Laws.{by_test}
use Rattle.node.specs.declared.MonotonicMillis.{MonotonicMillis}
use Rattle.table_model.specs.Layout.{clock_of, count_of, buckets_of}
use Rattle.table_model.specs.Sound.{table_sound}
use Rattle.printout.specs.declared.Totals.{Totals}
use Rattle.printout.specs.TableRow.{entry_total, replacement_total}
use Rattle.printout.specs.Printout.{printout, printout_room}
use Rattle.printout_table.specs.declared.TableState.{TableState}
use Rattle.printout_table.specs.declared.Printed.{Printed}
use Rattle.printout_table.specs.Told.{no_state, state_of, printed, printed_in, ToldKept}

module _ (s : Bytes) where
  pub unsound-state : table_sound s ≡ false → {r : TableState} → r ≡ no_state 1 → r ≡ state_of s
  unfolding state_of
  unsound-state f e = e ∙ sym (rw f refl)

  pub sound-state : table_sound s ≡ true → {clock : MonotonicMillis} {buckets : ℕ} {held : Totals} → clock.0 ≡ clock_of s → buckets ≡ count_of s
      → held ≡ record { entries = entry_total (buckets_of s); replacements = replacement_total (buckets_of s) }
      → record { number = 0; clock = clock; buckets = buckets; entries = held.entries; replacements = held.replacements } ≡ state_of s
  unfolding state_of
  sound-state t e₁ e₂ e₃ = rw (e₃, e₂, ← e₁, t) refl

-- a printout was answered r, and left exit
abbrev pub Answered : Bytes → Bytes → Printed → Bytes → Type 0
Answered out s r exit = (r ≡ printed out s) × (exit ≡ printed_in out s)

module _ (out s : Bytes) where
  pub unsound : table_sound s ≡ false → Answered out s (record { number = 1; size = 0 }) out
  unfolding printed printed_in
  unsound f = rw f (refl, refl)

  pub short : table_sound s ≡ true → length out < printout_room (count_of s) → Answered out s (record { number = 19; size = 0 }) out
  unfolding printed printed_in
  short t l = rw (t, lt-ltb (length out) (printout_room (count_of s)) l) (refl, refl)

  pub done : table_sound s ≡ true → printout_room (count_of s) ≤ length out → {n : ℕ} {exit : Bytes}
      → (n ≡ length (printout s)) × (exit ≡ store out 0 (printout s)) → Answered out s (record { number = 0; size = n }) exit
  unfolding printed printed_in
  done t l (size, bytes) = rw (t, le-ltb (length out) (printout_room (count_of s)) l) (ap (λ (n : ℕ). record { number = 0; size = n }) size, bytes)

pub told_kept : ToldKept
unfolding state_of printed printed_in
told_kept =
    record {
      state_listed = λ s. by_test (table_sound s) (λ t. rw t refl) (λ t. rw t refl);
      print_listed = λ out s.
          by_test (table_sound s)
          (λ t. by_test (ltb (length out) (printout_room (count_of s))) (λ l. rw (t, l) refl) (λ l. rw (t, l) refl))
          (λ t. rw t refl);
      refused_unchanged = λ out s.
          by_test (table_sound s)
          (λ t. by_test (ltb (length out) (printout_room (count_of s))) (λ l. rw (t, l) (λ h. refl)) (λ l. rw (t, l) (λ h. absurd (h refl))))
          (λ t. rw t (λ h. refl));
    }
