-- What a table tells of itself: the numbers of the printout's first row, and the printout written into lent bytes. Both touch all buckets.
use Rattle.std.specs.Prelude.{ℕ, ◌≡◌, true, cond, not, [], ◌∷◌, eqb, ltb, length}
use Rattle.octets.specs.Octets.{Bytes, store}
use Rattle.lists.specs.Lists.{first, any}
use Rattle.bucket_model.specs.Rules.{millis}
use Rattle.table_model.specs.Layout.{clock_of, count_of, buckets_of}
use Rattle.table_model.specs.Sound.{table_sound}
use Rattle.printout.specs.TableRow.{entry_total, replacement_total}
use Rattle.printout.specs.Printout.{printout, printout_room}
use Rattle.printout_table.specs.declared.TableState.{TableState}
use Rattle.printout_table.specs.declared.Printed.{Printed}

-- ---- its numbers

abbrev pub no_state : ℕ → TableState
no_state n = record { number = n; clock = millis 0; buckets = 0; entries = 0; replacements = 0 }

-- "buckets, clock, seats, waiting"; 1 where the table isn't sound
unfoldable pub state_of : Bytes → TableState
state_of s =
    cond (table_sound s)
    (record {
      number = 0;
      clock = millis (clock_of s);
      buckets = count_of s;
      entries = entry_total (buckets_of s);
      replacements = replacement_total (buckets_of s);
    })
    (no_state 1)

-- ---- its printout

-- the answer number: 1 where the table isn't sound, 19 where the room is shorter than a table of so many buckets can need
abbrev pub print_number : Bytes → Bytes → ℕ
print_number out s = first ((not (table_sound s), 1) ∷ (ltb (length out) (printout_room (count_of s)), 19) ∷ [])

-- with 0 the size of what was written
unfoldable pub printed : Bytes → Bytes → Printed
printed out s = record { number = print_number out s; size = cond (eqb (print_number out s) 0) (length (printout s)) 0 }

-- the lent bytes then: "A refusal .. changes nothing lent"
unfoldable pub printed_in : Bytes → Bytes → Bytes
printed_in out s = cond (eqb (print_number out s) 0) (store out 0 (printout s)) out

-- ---- of all bytes: the numbers that are given, and that a refused printout writes nothing

pub record ToldKept : Type 0 where
  pub state_listed : (s : Bytes) → any (eqb (state_of s).number) (0 ∷ 1 ∷ []) ≡ true
  pub print_listed : (out s : Bytes) → any (eqb (printed out s).number) (0 ∷ 1 ∷ 19 ∷ []) ≡ true
  pub refused_unchanged : (out s : Bytes) → ((printed out s).number ≡ 0 → ⊥) → printed_in out s ≡ out
