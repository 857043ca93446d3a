-- Laws of the fields of a line: how they are found, that they are spans of it, and the first seven. Assumes nothing.
use Prim.Native.Nat.{ℕ, zero, suc, ◌+◌, ◌-◌, ◌≤◌, ◌<◌}
use mathlib.Core.Path.{◌≡◌, refl, sym, ap, ◌∙◌}
use mathlib.Core.List.{List, [], ◌∷◌, map}
use native.Mathlib.Decide.{dec_lt}
use native.Mathlib.Numerals.{add-one}
use native.Mathlib.Nat.{zero-add, add-zero}
use native.Mathlib.Omega.{arith}
use borrow.Author.Tests.{eq-eqb, ne_eqb}
use lib.Dec.{eqb}
use lib.ListN.{length, get_or, take, drop, set, replicate, length-set, length-map, drop_of_length-le, get_or-eq_default}
use lib.Seq.{drop-cons, get_or-set_same, get_or-set_other, take-nil}
use Rattle.octets.specs.Octets.{Bytes, part, store}
use Rattle.octets.proofs.Laws.{length-store, part-store}
use Rattle.lists.proofs.Laws.{by_test}
use Rattle.packet_span.specs.declared.Span.{Span}
use Rattle.log_line.specs.declared.Fields.{Fields}
use Rattle.log_line.specs.Fields.{span, fields_from, fields, field, Within, counted, added}

-- an array in a struct has the length of its values
pub length_mapped : (X Y : Type 0) (f : X → Y) (l : List X) (n : ℕ) → length (map f l) ≡ n → length l ≡ n
length_mapped X Y f l n e = sym (length-map l f) ∙ e

-- ---- finding the fields, one by one

abbrev pub collect : Fields → List Span → Fields
collect r [] = r
collect r (f ∷ fs) = collect (added r f) fs

abbrev pub none : Fields
none = record { count = 0; spans = replicate 7 (span 0 0) }

collected : (r : Fields) (fs : List Span) → collect r fs ≡ record { count = r.count + length fs; spans = store r.spans r.count fs }
collected r [] = ap (λ (n : ℕ). record { count = n; spans = r.spans }) (sym (add-zero r.count))
collected r (f ∷ fs) =
    let n : r.count + 1 + length fs ≡ r.count + suc (length fs) = omega arith in
    collected (added r f) fs
    ∙ ap (λ (k : ℕ). record { count = k; spans = store (set r.spans r.count f) (r.count + 1) fs }) n
    ∙ ap (λ (k : ℕ). record { count = r.count + suc (length fs); spans = store (set r.spans r.count f) k fs }) (add-one r.count)

-- all of them are counted
pub collect_all : (fs : List Span) → collect none fs ≡ counted fs
unfolding counted
collect_all fs = collected none fs ∙ ap (λ (n : ℕ). record { count = n; spans = store (replicate 7 (span 0 0)) 0 fs }) (zero-add (length fs))

module _ (line : Bytes) (start i : ℕ) (from : start ≤ i) where
  -- a tab ends a field
  pub fields-tab : i < length line → get_or line i 0 ≡ 9 → fields_from start (i - start) (drop i line) ≡ span start (i - start) ∷ fields_from (i + 1) (i + 1 - (i + 1)) (drop (i + 1) line)
  fields-tab h e =
      let next : start + (i - start) + 1 ≡ i + 1 = omega arith in
      let empty : i + 1 - (i + 1) ≡ 0 = omega arith in
      rw (drop-cons line i 0 h, eq-eqb (get_or line i 0) 9 e, next, empty) (ap (λ (k : ℕ). span start (i - start) ∷ fields_from (i + 1) 0 (drop k line)) (sym (add-one i)))

  -- another byte belongs to it
  pub fields-byte : i < length line → (get_or line i 0 ≡ 9 → ⊥) → fields_from start (i - start) (drop i line) ≡ fields_from start (i + 1 - start) (drop (i + 1) line)
  fields-byte h ne =
      let more : i - start + 1 ≡ i + 1 - start = omega arith in
      rw (drop-cons line i 0 h, ne_eqb (get_or line i 0) 9 ne, more) (ap (λ (k : ℕ). fields_from start (i + 1 - start) (drop k line)) (sym (add-one i)))

  pub fields-end : length line ≤ i → fields_from start (i - start) (drop i line) ≡ span start (i - start) ∷ []
  fields-end h = rw (drop_of_length-le line h)

-- ---- they are spans of the line

within_from : (l start len : ℕ) (s : Bytes) → start + len + length s ≤ l → (i : ℕ) → (field (fields_from start len s) i).start + (field (fields_from start len s) i).len ≤ l
within_from l start len [] h zero = omega arith
within_from l start len [] h (suc i) = omega arith
within_from l start len (b ∷ s) h zero = by_test (eqb b 9) (λ e. rw e (omega arith)) (λ e. rw e (within_from l start (len + 1) s (omega arith) 0))
within_from l start len (b ∷ s) h (suc i) = by_test (eqb b 9) (λ e. rw e (within_from l (start + len + 1) 0 s (omega arith) i)) (λ e. rw e (within_from l start (len + 1) s (omega arith) (suc i)))

pub fields_within : (line : Bytes) → Within line (fields line)
unfolding fields
fields_within line = within_from (length line) 0 0 line (omega arith)

-- ---- the first seven

kept : (fs l : List Span) (at i : ℕ) → i < at → field (store l at fs) i ≡ field l i
kept [] l at i h = refl
kept (f ∷ fs) l at i h = kept fs (set l at f) (suc at) i (omega arith) ∙ get_or-set_other l at i f (span 0 0) (omega arith)

stored : (fs l : List Span) (at i : ℕ) → ((j : ℕ) → at ≤ j → field l j ≡ span 0 0) → at + i < length l → field (store l at fs) (at + i) ≡ field fs i
stored [] l at i blank h = blank (at + i) (omega arith)
stored (f ∷ fs) l at zero blank h =
    ap (field (store (set l at f) (suc at) fs)) (add-zero at)
    ∙ kept fs (set l at f) (suc at) at (omega arith)
    ∙ get_or-set_same l at f (span 0 0) (omega arith)
stored (f ∷ fs) l at (suc i) blank h =
    let e : at + suc i ≡ suc at + i = omega arith in
    rw e (stored fs (set l at f) (suc at) i (λ j le. get_or-set_other l at j f (span 0 0) (omega arith) ∙ blank j (omega arith)) (omega (arith, length-set l at f)))

blank : (n i : ℕ) → field (replicate n (span 0 0)) i ≡ span 0 0
blank zero i = refl
blank (suc n) zero = refl
blank (suc n) (suc i) = blank n i

-- the first seven of the fields
pub counted-field : (fs : List Span) (i : ℕ) → i < 7 → field (counted fs).spans i ≡ field fs i
unfolding counted
counted-field fs i h = rw (zero-add i) at (stored fs (replicate 7 (span 0 0)) 0 i (λ j le. blank 7 j) (omega arith))

length-counted : (fs : List Span) → length (counted fs).spans ≡ 7
unfolding counted
length-counted fs = length-store fs (replicate 7 (span 0 0)) 0

pub counted-within : (line : Bytes) (fs : List Span) → Within line fs → Within line (counted fs).spans
counted-within line fs w i = elim (dec_lt i 7) [
  | yes l ↦ rw (counted-field fs i l) (w i)
  | no g ↦ let e : field (counted fs).spans i ≡ span 0 0 = get_or-eq_default (counted fs).spans (span 0 0) (omega (arith, length-counted fs)) in rw e (omega arith)
]

take_drop_one : (n : ℕ) (l : List Span) → take n (drop 1 l) ≡ drop 1 (take (suc n) l)
take_drop_one n [] = take-nil n
take_drop_one n (f ∷ l) = refl

-- all of them after the first, where there are no more than seven
pub counted_rest : (fs : List Span) (n : ℕ) → length fs ≡ n + 1 → n ≤ 6 → take n (drop 1 (counted fs).spans) ≡ drop 1 fs
unfolding counted part
counted_rest fs n e h =
    let k : suc n ≡ length fs = omega arith in
    take_drop_one n (counted fs).spans
    ∙ ap (λ (m : ℕ). drop 1 (take m (counted fs).spans)) k
    ∙ ap (drop 1) (part-store fs (replicate 7 (span 0 0)) 0 (omega arith))
