-- The numbers that a question about a key gives. Assumes nothing.
use Prim.Native.Nat.{ℕ}
use mathlib.Core.Path.{◌≡◌, refl, sym, ap, ◌∙◌}
use mathlib.Core.Bool.{Bool, true, false, cond, not}
use mathlib.Core.List.{List, [], ◌∷◌}
use borrow.Author.Tests.{eqb-true}
use lib.Dec.{eqb}
use lib.ListN.{length}
use Rattle.octets.specs.Octets.{Bytes}
use Rattle.lists.specs.Lists.{any}
use Rattle.lists.proofs.Laws.{by_test}
use Rattle.entry.specs.declared.Entry.{Entry}
use Rattle.call_history.specs.Model.{is_own, is_kept}
use Rattle.call_model.specs.Calls.{env_of, bucket_for, unsound_for}
use Rattle.call_model.specs.Reading.{reading}
use Rattle.call_key.specs.Number.{key_number}
use Rattle.call_key.specs.Head.{first_of, head_on}
use Rattle.call_key.specs.Held.{found_on}
use Rattle.call_key.specs.Kept.{KeyKept}

abbrev numbers : List ℕ
numbers = 0 ∷ 1 ∷ 5 ∷ 7 ∷ 12 ∷ []

by_tests : (unsound whole own kept : Bool) → any (eqb (cond unsound 1 (cond (not whole) 5 (cond own 7 (cond (not kept) 12 0))))) numbers ≡ true
by_tests true whole own kept = refl
by_tests false false own kept = refl
by_tests false true true kept = refl
by_tests false true false true = refl
by_tests false true false false = refl

first-number : (l : List Entry) → (first_of l).number ≡ 0
first-number [] = refl
first-number (e ∷ l) = refl

module _ (s key : Bytes) where
  key-listed : any (eqb (key_number s key)) numbers ≡ true
  unfolding key_number
  key-listed = by_tests (unsound_for reading s key) (eqb (length key) 64) (is_own (env_of reading s) key) (is_kept (env_of reading s) key)

  head-number : (head_on s key).number ≡ key_number s key
  unfolding head_on
  head-number =
      by_test (eqb (key_number s key) 0)
      (λ t. rw t (first-number (bucket_for reading s key).entries ∙ sym (eqb-true (key_number s key) 0 t)))
      (λ t. rw t refl)

  find-number : (found_on s key).number ≡ key_number s key
  unfolding found_on
  find-number = by_test (eqb (key_number s key) 0) (λ t. rw t (sym (eqb-true (key_number s key) 0 t))) (λ t. rw t refl)

pub key_kept : KeyKept
key_kept =
    record {
      head_listed = λ s key. ap (λ (n : ℕ). any (eqb n) numbers) (head-number s key) ∙ key-listed s key;
      find_listed = λ s key. ap (λ (n : ℕ). any (eqb n) numbers) (find-number s key) ∙ key-listed s key;
    }
