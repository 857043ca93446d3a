-- Laws of ranges and of counting them. Assumes nothing.
use Prim.Native.Nat.{ℕ, ◌+◌, ◌≤◌, ◌<◌}
use mathlib.Core.Path.{◌≡◌, refl, sym, ap, ◌∙◌}
use mathlib.Core.Bool.{Bool, true, false, cond, not, and-false}
use mathlib.Core.List.{List, ◌∷◌}
use native.Mathlib.Omega.{arith}
use borrow.Author.Tests.{eq-eqb, ne_eqb}
use lib.Dec.{ltb}
use lib.ListN.{length, get_or, take}
use Rattle.std.specs.Int.{from_bool}
use Rattle.std.specs.List.{count_by}
use Rattle.std.proofs.lemmas.List.Recursion.{is_count_by}
use Rattle.octets.specs.Octets.{part, same_bytes}
use Rattle.octets.proofs.Laws.{get_d_part, same_eq}
use Rattle.lists.specs.Lists.{select}
use Rattle.lists.proofs.Laws.{by_test}
use Rattle.node.specs.declared.Endpoint.{Endpoint}
use Rattle.entry.specs.declared.Entry.{Entry}
use Rattle.bucket_model.specs.Rules.{same_range, range_count, range_full, may_take}
use Rattle.bucket_model.proofs.Ranges.{take_room}
use Rattle.bucket.specs.declared.EntryList.{EntryList}
use Rattle.bucket.specs.Steps.{listed}
use Rattle.bucket.proofs.Laws.{length-listed}

-- ---- two endpoints

module _ (a b : Endpoint) where
  pub third-differs : (get_or a.address 2 0 ≡ get_or b.address 2 0 → ⊥) → false ≡ same_range a b
  third-differs differ =
      by_test (same_bytes (part a.address 0 3) (part b.address 0 3))
      (λ t. absurd (differ (sym (get_d_part a.address 0 3 2 (omega arith))
      ∙ ap (λ x. get_or x 2 0) (same_eq (part a.address 0 3) (part b.address 0 3) t) ∙ get_d_part b.address 0 3 2 (omega arith))))
      (λ f. sym (rw (f, and-false, and-false) refl))

  pub long-first : (a.len ≡ 4 → ⊥) → false ≡ same_range a b
  long-first h = rw (ne_eqb a.len 4 h)

  pub long-second : a.len ≡ 4 → (b.len ≡ 4 → ⊥) → false ≡ same_range a b
  long-second h g = rw (eq-eqb a.len 4 h, ne_eqb b.len 4 g)

  pub first_three : a.len ≡ 4 → b.len ≡ 4 → {r : Bool} → r ≡ same_bytes (take 3 a.address) (take 3 b.address) → r ≡ same_range a b
  unfolding part
  first_three h g is = rw (eq-eqb a.len 4 h, eq-eqb b.len 4 g) is

-- ---- counted

-- a flag as a number
pub as_number : (b : Bool) → from_bool b ≡ cond b 1 0
as_number true = refl
as_number false = refl

pub counted : (b : Bool) {k : ℕ} → k ≡ cond b 1 0 → k ≤ 1
counted true e = omega arith
counted false e = omega arith

-- those of the range, by the library's count
pub counted_by : (a : Endpoint) (es : List Entry) → count_by (λ e. same_range a e.endpoint) es ≡ range_count a es
unfolding range_count
counted_by a es =
    let q : Entry → Bool = λ e. same_range a e.endpoint in
    let turn : (x : Entry) (xs : List Entry) → length (select q (x ∷ xs)) ≡ cond (q x) (1 + length (select q xs)) (length (select q xs)) =
    λ x xs. by_test (q x) (λ t. rw t (omega arith)) (λ t. rw t refl) in
    sym (is_count_by (λ l. length (select q l)) q refl turn es)

-- ---- who may take an entry

module _ (l : EntryList) (n : length l.items ≡ 16) (h : l.len ≤ 16) (a : Endpoint) where
  pub may_free : ltb l.len 16 ≡ true → {r : Bool} → r ≡ range_full (listed l) a → not r ≡ may_take (listed l) a
  unfolding may_take
  may_free g is = rw (length-listed l n h, g, is) refl

  pub may-full : ltb l.len 16 ≡ false → false ≡ may_take (listed l) a
  unfolding may_take
  may-full g = rw (length-listed l n h, g) refl

-- ---- who may take an entry finds room

pub room_for_one : (l : EntryList) (a : Endpoint) → length l.items ≡ 16 → l.len ≤ 16 → may_take (listed l) a ≡ true → l.len < 16
room_for_one l a n h may = omega (arith, length-listed l n h, take_room (listed l) a may)
