-- Ranges on the bytes of records, and the turns of the loops over them, each as "what is left to do". Assumes nothing.
use Prim.Native.Nat.{ℕ, suc, ◌+◌, ◌-◌, ◌*◌, ◌≤◌, ◌<◌}
use mathlib.Core.Path.{◌≡◌, refl, sym, ap, ◌∙◌}
use mathlib.Core.Bool.{Bool, true, false, cond, not, ◌&&◌, and-false}
use mathlib.Core.List.{◌∷◌}
use native.Mathlib.Omega.{arith}
use borrow.Author.Tests.{eq-eqb, ne_eqb, le-leb, lt-leb, lt-ltb, le-ltb, ltb-true, ltb-false}
use lib.Dec.{eqb, leb, ltb}
use lib.ListN.{get_or, take, drop}
use Rattle.octets.specs.Octets.{Bytes, part, same_bytes}
use Rattle.octets.proofs.Laws.{part-part, get_d_part, same_eq}
use Rattle.lists.specs.Lists.{all}
use Rattle.lists.proofs.Laws.{by_test}
use Rattle.node.specs.declared.Endpoint.{Endpoint}
use Rattle.entry.specs.declared.Entry.{Entry}
use Rattle.entry.specs.Layout.{decode_entry, decode_stamp}
use Rattle.entry.proofs.Laws.{decode-entry, decode-endpoint}
use Rattle.bucket_model.specs.Contents.{entries_at}
use Rattle.bucket_model.specs.Rules.{max_entries, max_of_range, is_proved, same_range, range_count, may_take, is_promoted}
use Rattle.bucket_model.specs.Sound.{ranges_kept}
use Rattle.bucket_model.proofs.ByteForm.{length-entries_at}
use Rattle.bucket_range.proofs.Later.{too_many, no_more}

-- ---- one record

abbrev pub endpoint_at : Bytes → ℕ → Endpoint
endpoint_at s a = (decode_entry (part s a 143)).endpoint

len_at : (s : Bytes) (a : ℕ) → (endpoint_at s a).len ≡ get_or s (a + 64) 0
len_at s a = ap (λ p. p.endpoint.len) (decode-entry s a) ∙ ap (λ e. e.len) (decode-endpoint s (a + 64))

three_at : (s : Bytes) (a : ℕ) → part (endpoint_at s a).address 0 3 ≡ part s (a + 65) 3
three_at s a =
    let e : a + 64 + 1 + 0 ≡ a + 65 = omega arith in
    ap (λ p. part p.endpoint.address 0 3) (decode-entry s a)
    ∙ ap (λ x. part x.address 0 3) (decode-endpoint s (a + 64))
    ∙ part-part s (a + 64 + 1) 16 0 3 (omega arith)
    ∙ ap (λ k. part s k 3) e

range_is : (s : Bytes) (a b : ℕ)
    → same_range (endpoint_at s a) (endpoint_at s b)
    ≡ (eqb (get_or s (a + 64) 0) 4 && (eqb (get_or s (b + 64) 0) 4 && same_bytes (part s (a + 65) 3) (part s (b + 65) 3)))
range_is s a b = rw (len_at s a, len_at s b, three_at s a, three_at s b) refl

module _ (s : Bytes) (a b : ℕ) where
  pub long-first : (get_or s (a + 64) 0 ≡ 4 → ⊥) → false ≡ same_range (endpoint_at s a) (endpoint_at s b)
  long-first h = sym (range_is s a b ∙ rw (ne_eqb (get_or s (a + 64) 0) 4 h) refl)

  pub long-second : get_or s (a + 64) 0 ≡ 4 → (get_or s (b + 64) 0 ≡ 4 → ⊥) → false ≡ same_range (endpoint_at s a) (endpoint_at s b)
  long-second h g = sym (range_is s a b ∙ rw (eq-eqb (get_or s (a + 64) 0) 4 h, ne_eqb (get_or s (b + 64) 0) 4 g) refl)

  -- the third byte of the addresses
  third : (c : ℕ) → get_or (part s (c + 65) 3) 2 0 ≡ get_or s (c + 67) 0
  third c =
      let e : c + 65 + 2 ≡ c + 67 = omega arith in
      get_d_part s (c + 65) 3 2 (omega arith) ∙ ap (λ k. get_or s k 0) e

  pub third-differs : (get_or s (a + 67) 0 ≡ get_or s (b + 67) 0 → ⊥) → false ≡ same_range (endpoint_at s a) (endpoint_at s b)
  third-differs differ =
      by_test (same_bytes (part s (a + 65) 3) (part s (b + 65) 3))
      (λ t. absurd (differ (sym (third a) ∙ ap (λ x. get_or x 2 0) (same_eq (part s (a + 65) 3) (part s (b + 65) 3) t) ∙ third b)))
      (λ f. sym (range_is s a b ∙ rw (f, and-false, and-false) refl))

  -- the parts that are lent
  lent : (c : ℕ) → take (c + 68 - (c + 65)) (drop (c + 65) s) ≡ part s (c + 65) 3
  unfolding part
  lent c = let e : c + 68 - (c + 65) ≡ 3 = omega arith in ap (λ k. take k (drop (c + 65) s)) e

  pub first_three : get_or s (a + 64) 0 ≡ 4 → get_or s (b + 64) 0 ≡ 4 → {r : Bool}
      → r ≡ same_bytes (take (a + 68 - (a + 65)) (drop (a + 65) s)) (take (b + 68 - (b + 65)) (drop (b + 65) s))
      → r ≡ same_range (endpoint_at s a) (endpoint_at s b)
  first_three h g is =
      is
      ∙ ap (λ x. same_bytes x (take (b + 68 - (b + 65)) (drop (b + 65) s))) (lent a)
      ∙ ap (λ x. same_bytes (part s (a + 65) 3) x) (lent b)
      ∙ sym (range_is s a b ∙ rw (eq-eqb (get_or s (a + 64) 0) 4 h, eq-eqb (get_or s (b + 64) 0) 4 g) refl)

-- ---- records in a row

module _ (s : Bytes) (at n i : ℕ) (less : i < n) where
  left : n - i ≡ suc (n - (i + 1))
  left = omega arith

  next : at + i * 143 + 143 ≡ at + (i + 1) * 143
  next = omega arith

  pub count_left : (x : Endpoint) → range_count x (entries_at s (at + i * 143) (n - i))
      ≡ cond (same_range x (endpoint_at s (at + i * 143))) 1 0 + range_count x (entries_at s (at + (i + 1) * 143) (n - (i + 1)))
  unfolding entries_at range_count
  count_left x =
      rw (left, ← next)
      (by_test (same_range x (endpoint_at s (at + i * 143))) (λ t. rw t (omega arith)) (λ t. rw t (omega arith)))

  all_left : (q : Entry → Bool) → all q (entries_at s (at + i * 143) (n - i))
      ≡ (q (decode_entry (part s (at + i * 143) 143)) && all q (entries_at s (at + (i + 1) * 143) (n - (i + 1))))
  unfolding entries_at
  all_left q = rw (left, ← next) refl

  -- the answer is that of the records from i on: one fails, and it is known, or one more passes
  pub stops : (q : Entry → Bool) {a : Bool} → a ≡ all q (entries_at s (at + i * 143) (n - i)) → q (decode_entry (part s (at + i * 143) 143)) ≡ false → false ≡ a
  stops q e fails = sym (e ∙ all_left q ∙ ap (λ x. x && all q (entries_at s (at + (i + 1) * 143) (n - (i + 1)))) fails)

  pub goes_on : (q : Entry → Bool) {a : Bool} → a ≡ all q (entries_at s (at + i * 143) (n - i)) → q (decode_entry (part s (at + i * 143) 143)) ≡ true
      → a ≡ all q (entries_at s (at + (i + 1) * 143) (n - (i + 1)))
  goes_on q e passes = e ∙ all_left q ∙ ap (λ x. x && all q (entries_at s (at + (i + 1) * 143) (n - (i + 1)))) passes

  -- the same of ranges kept, by how many are behind the record
  kept-left : ranges_kept (entries_at s (at + i * 143) (n - i))
      ≡ ranges_kept (decode_entry (part s (at + i * 143) 143) ∷ entries_at s (at + i * 143 + 143) (n - i - 1))
  unfolding entries_at
  kept-left = let e : n - i ≡ suc (n - i - 1) = omega arith in ap (λ k. ranges_kept (entries_at s (at + i * 143) k)) e

  module _ {k : ℕ} (is : k ≡ range_count (endpoint_at s (at + i * 143)) (entries_at s (at + i * 143 + 143) (n - i - 1))) {a : Bool}
      (e : a ≡ ranges_kept (entries_at s (at + i * 143) (n - i))) where
    pub stops-kept : max_of_range ≤ k → false ≡ a
    stops-kept h =
        sym (e ∙ kept-left ∙ too_many (decode_entry (part s (at + i * 143) 143)) (entries_at s (at + i * 143 + 143) (n - i - 1)) (omega (arith, is)))

    pub goes-on-kept : k < max_of_range → a ≡ ranges_kept (entries_at s (at + (i + 1) * 143) (n - (i + 1)))
    goes-on-kept h =
        let f : n - i - 1 ≡ n - (i + 1) = omega arith in
        e ∙ kept-left ∙ no_more (decode_entry (part s (at + i * 143) 143)) (entries_at s (at + i * 143 + 143) (n - i - 1)) (omega (arith, is))
        ∙ ap (λ x. ranges_kept (entries_at s x (n - i - 1))) next
        ∙ ap (λ x. ranges_kept (entries_at s (at + (i + 1) * 143) x)) f

-- the start of a loop over n records, and its end
pub from_start : {A : Type 0} (r : ℕ → ℕ → A) (at n : ℕ) → r at n ≡ r (at + 0 * 143) (n - 0)
from_start r at n =
    let e : n ≡ n - 0 = omega arith in
    let f : at ≡ at + 0 * 143 = omega arith in
    ap (λ k. r at k) e ∙ ap (λ k. r k (n - 0)) f

pub no_count : (x : Endpoint) (s : Bytes) (at n i : ℕ) → n ≤ i → range_count x (entries_at s at (n - i)) ≡ 0
unfolding entries_at range_count
no_count x s at n i h = let e : n - i ≡ 0 = omega arith in rw e refl

pub all_none : (q : Entry → Bool) (s : Bytes) (at n i : ℕ) → n ≤ i → all q (entries_at s at (n - i)) ≡ true
unfolding entries_at
all_none q s at n i h = let e : n - i ≡ 0 = omega arith in rw e refl

pub kept_none : (s : Bytes) (at n i : ℕ) → n ≤ i → ranges_kept (entries_at s at (n - i)) ≡ true
unfolding entries_at
kept_none s at n i h = let e : n - i ≡ 0 = omega arith in rw e refl

-- ---- who may take an entry

module _ (s : Bytes) (a at n : ℕ) where
  proved-at : is_proved (decode_entry (part s a 143)).proof ≡ not (eqb (get_or s (a + 93) 0) 0)
  unfolding decode_stamp
  proved-at =
      let flag : get_or (part s (a + 93) 9) 0 0 ≡ get_or s (a + 93) 0 =
      let e : a + 93 + 0 ≡ a + 93 = omega arith in
      get_d_part s (a + 93) 9 0 (omega arith) ∙ ap (λ k. get_or s k 0) e in
      ap (λ p. is_proved p.proof) (decode-entry s a) ∙ rw flag (by_test (eqb (get_or s (a + 93) 0) 0) (λ t. rw t refl) (λ t. rw t refl))

  pub unproved : get_or s (a + 93) 0 ≡ 0 → false ≡ is_promoted (entries_at s at n) (decode_entry (part s a 143))
  unproved z = sym (rw (proved-at, eq-eqb (get_or s (a + 93) 0) 0 z) refl)

  pub no_room : (get_or s (a + 93) 0 ≡ 0 → ⊥) → 16 ≤ n → false ≡ is_promoted (entries_at s at n) (decode_entry (part s a 143))
  unfolding may_take
  no_room z full = sym (rw (proved-at, ne_eqb (get_or s (a + 93) 0) 0 z, length-entries_at s at n, le-ltb n max_entries full) refl)

  pub by-range : (get_or s (a + 93) 0 ≡ 0 → ⊥) → n < 16 → {k : ℕ} → k ≡ range_count (endpoint_at s a) (entries_at s at n)
      → ltb k max_of_range ≡ is_promoted (entries_at s at n) (decode_entry (part s a 143))
  unfolding may_take
  by-range z free {k} is =
      let full : not (leb max_of_range k) ≡ ltb k max_of_range =
      by_test (ltb k max_of_range)
      (λ t. rw (t, lt-leb max_of_range k (ltb-true k max_of_range t)) refl)
      (λ t. rw (t, le-leb max_of_range k (ltb-false k max_of_range t)) refl) in
      sym (rw (proved-at, ne_eqb (get_or s (a + 93) 0) 0 z, length-entries_at s at n, lt-ltb n max_entries free, ← is) full)
