-- The turns of the loops over records, each as "what is left to do". Assumes nothing.
use mathlib.Core.Path.{◌≡◌, refl, sym, ap, ◌∙◌}
use mathlib.Core.Bool.{Bool, true, false, cond, not, ◌&&◌, ◌||◌}
use Prim.Native.Nat.{ℕ, zero, suc, ◌+◌, ◌-◌, ◌*◌, ◌≤◌, ◌<◌}
use native.Mathlib.Omega.{arith}
use borrow.Author.Tests.{eq-eqb, ne_eqb, eqb-true, eqb-false}
use lib.Bits.{bit_or, or_add_and, and_le_l, and_le_r}
use lib.Dec.{eqb}
use lib.ListN.{length, get_or, take, drop, replicate, length-drop, drop_of_length-le}
use lib.Seq.{drop-cons, length-take-le}
use Rattle.octets.specs.Octets.{Bytes, part, same_bytes}
use Rattle.octets.proofs.Laws.{part-part, same_refl, same_eq}
use Rattle.lists.specs.Lists.{any}
use Rattle.lists.proofs.Laws.{by_test}
use Rattle.entry.specs.declared.Stamp.{Stamp}
use Rattle.entry.specs.Layout.{decode_endpoint, proof_of, ping_of}
use Rattle.entry.proofs.Laws.{decode-entry, decode-endpoint}
use Rattle.bucket_model.specs.Contents.{entries_at}
use Rattle.bucket_model.specs.Rules.{is_of, is_proved, is_out}
use Rattle.bucket_model.specs.Sound.{address_form}
use Rattle.bucket_model.proofs.ByteForm.{entries_at-part}
use Rattle.bucket_sound.specs.Steps.{all_records, keys_apart}
use Rattle.bucket_sound.proofs.Tests.{both_ways}

-- ---- zeros

zeros_left : (xs : Bytes) (n i : ℕ) → length xs ≡ n → i < n
    → same_bytes (replicate (n - i) 0) (drop i xs) ≡ (eqb 0 (get_or xs i 0) && same_bytes (replicate (n - (i + 1)) 0) (drop (i + 1) xs))
unfolding same_bytes
zeros_left xs n i size less =
    let e : n - i ≡ suc (n - (i + 1)) = omega arith in
    let f : suc i ≡ i + 1 = omega arith in
    rw (e, drop-cons xs i 0 (omega arith), f) refl

pub zeros_start : (xs : Bytes) (n : ℕ) → same_bytes (replicate n 0) xs ≡ same_bytes (replicate (n - 0) 0) (drop 0 xs)
zeros_start xs n = let e : n ≡ n - 0 = omega arith in ap (λ k. same_bytes (replicate k 0) xs) e

zeros_end : (xs : Bytes) (n i : ℕ) → length xs ≡ n → n ≤ i → same_bytes (replicate (n - i) 0) (drop i xs) ≡ true
unfolding same_bytes
zeros_end xs n i size h =
    let e : n - i ≡ 0 = omega arith in
    let past : length xs ≤ i = omega arith in
    rw (e, drop_of_length-le xs past) refl

and_assoc : (a b c : Bool) → ((a && b) && c) ≡ (a && (b && c))
and_assoc true b c = refl
and_assoc false b c = refl

-- both are zero where their bits together are
or_zero : (a b : ℕ) → eqb (bit_or a b) 0 ≡ (eqb a 0 && eqb 0 b)
or_zero a b =
    by_test (eqb (bit_or a b) 0)
    (λ h. let z : bit_or a b ≡ 0 = eqb-true (bit_or a b) 0 h in
    let ea : a ≡ 0 = omega (arith, or_add_and a b, and_le_l a b, and_le_r a b) in
    let eb : 0 ≡ b = omega (arith, or_add_and a b, and_le_l a b, and_le_r a b) in
    h ∙ sym (rw (eq-eqb a 0 ea, eq-eqb 0 b eb) refl))
    (λ h. by_test (eqb a 0)
    (λ ha. by_test (eqb 0 b)
    (λ hb. let z : bit_or a b ≡ 0 = rw (eqb-true a 0 ha, sym (eqb-true 0 b hb)) refl in
    absurd (eqb-false (bit_or a b) 0 h z))
    (λ hb. h ∙ sym (rw (ha, hb) refl)))
    (λ ha. h ∙ sym (rw ha refl)))

pub zeros_turn : (xs : Bytes) (n i any : ℕ) → length xs ≡ n → i < n
    → (eqb (bit_or any (get_or xs i 0)) 0 && same_bytes (replicate (n - (i + 1)) 0) (drop (i + 1) xs))
    ≡ (eqb any 0 && same_bytes (replicate (n - i) 0) (drop i xs))
zeros_turn xs n i any size less =
    let rest : Bool = same_bytes (replicate (n - (i + 1)) 0) (drop (i + 1) xs) in
    ap (λ b. b && rest) (or_zero any (get_or xs i 0))
    ∙ and_assoc (eqb any 0) (eqb 0 (get_or xs i 0)) rest
    ∙ ap (λ b. eqb any 0 && b) (sym (zeros_left xs n i size less))

and_true : (a : Bool) → (a && true) ≡ a
and_true true = refl
and_true false = refl

pub zeros_done : (xs : Bytes) (n i any : ℕ) → length xs ≡ n → n ≤ i
    → (eqb any 0 && same_bytes (replicate (n - i) 0) (drop i xs)) ≡ eqb any 0
zeros_done xs n i any size h = ap (λ b. eqb any 0 && b) (zeros_end xs n i size h) ∙ and_true (eqb any 0)

-- ---- stamps

pub unproved_stands : (proof ping : Stamp) (proved unproved : Bool) {r : Bool} → proof.flag ≡ 0 → r ≡ (unproved && not (eqb ping.flag 0))
    → r ≡ cond (is_proved (proof_of proof)) proved (unproved && is_out (ping_of ping))
unproved_stands proof ping proved unproved z e =
    let out : is_out (ping_of ping) ≡ not (eqb ping.flag 0) = by_test (eqb ping.flag 0) (λ t. rw t refl) (λ t. rw t refl) in
    e ∙ sym (rw (eq-eqb proof.flag 0 z, out) refl)

pub proved_stands : (proof ping : Stamp) (proved unproved : Bool) → (proof.flag ≡ 0 → ⊥) → proved ≡ cond (is_proved (proof_of proof)) proved (unproved && is_out (ping_of ping))
proved_stands proof ping proved unproved z = sym (rw (ne_eqb proof.flag 0 z) refl)

-- ---- records

module _ (s : Bytes) (at n i : ℕ) (less : i < n) where
  left : n - i ≡ suc (n - (i + 1))
  left = omega arith

  next : at + i * 143 + 143 ≡ at + (i + 1) * 143
  next = omega arith

  pub records-left : (f : Bytes → Bool)
      → all_records f s (at + i * 143) (n - i) ≡ (f (part s (at + i * 143) 143) && all_records f s (at + (i + 1) * 143) (n - (i + 1)))
  unfolding all_records
  records-left f = rw (left, ← next) refl

  pub any_left : (key : Bytes)
      → any (is_of key) (entries_at s (at + i * 143) (n - i)) ≡ (same_bytes key (part s (at + i * 143) 64) || any (is_of key) (entries_at s (at + (i + 1) * 143) (n - (i + 1))))
  unfolding entries_at
  any_left key = rw (left, ← next, decode-entry s (at + i * 143)) refl

  pub apart-left : (other m : ℕ)
      → keys_apart s (at + i * 143) (n - i) other m
      ≡ ((not (any (is_of (part s (at + i * 143) 64)) (entries_at s (at + i * 143 + 143) (n - i - 1))) && not (any (is_of (part s (at + i * 143) 64)) (entries_at s other m)))
      && keys_apart s (at + (i + 1) * 143) (n - (i + 1)) other m)
  unfolding keys_apart
  apart-left other m =
      let e : n - i - 1 ≡ n - (i + 1) = omega arith in
      rw (e, left, ← next) refl

-- a loop's turn, where the answer is that of what is left, and r is the test of one more: it passes, or it fails and the answer is known
pub goes_on : {a b t rest r : Bool} → a ≡ b → b ≡ (t && rest) → r ≡ t → r ≡ true → a ≡ rest
goes_on {rest = rest} e f q p = e ∙ f ∙ ap (λ x. x && rest) (sym q ∙ p)

pub stops : (rest : Bool) {a b t r : Bool} → a ≡ b → b ≡ (t && rest) → r ≡ t → r ≡ false → false ≡ a
stops rest e f q p = sym (e ∙ f ∙ ap (λ x. x && rest) (sym q ∙ p))

-- the same where the answer is whether any of them passes
pub passes_by : {a b t rest r : Bool} → a ≡ b → b ≡ (t || rest) → r ≡ t → r ≡ false → a ≡ rest
passes_by {rest = rest} e f q p = e ∙ f ∙ ap (λ x. x || rest) (sym q ∙ p)

pub finds : (rest : Bool) {a b t r : Bool} → a ≡ b → b ≡ (t || rest) → r ≡ t → r ≡ true → false ≡ not a
finds rest {a} e f q p = let is : a ≡ true = e ∙ f ∙ ap (λ x. x || rest) (sym q ∙ p) in sym (ap not is)

-- the start of a loop over n records, and its end
pub from_start : (r : ℕ → ℕ → Bool) (at n : ℕ) → r at n ≡ r (at + 0 * 143) (n - 0)
from_start r at n =
    let e : n ≡ n - 0 = omega arith in
    let f : at ≡ at + 0 * 143 = omega arith in
    ap (λ k. r at k) e ∙ ap (λ k. r k (n - 0)) f

pub at_end : (r : ℕ → ℕ → Bool) (at n i : ℕ) → n ≤ i → r at (n - i) ≡ r at 0
at_end r at n i h = let e : n - i ≡ 0 = omega arith in ap (λ k. r at k) e

pub no_records : (f : Bytes → Bool) (s : Bytes) (at : ℕ) → all_records f s at 0 ≡ true
unfolding all_records
no_records f s at = refl

pub no_entries : (key s : Bytes) (at : ℕ) → any (is_of key) (entries_at s at 0) ≡ false
unfolding entries_at
no_entries key s at = refl

pub no_keys : (s : Bytes) (at other m : ℕ) → keys_apart s at 0 other m ≡ true
unfolding keys_apart
no_keys s at other m = refl

-- ---- parts that are lent

pub lent : (s : Bytes) (at n : ℕ) → take (at + n - at) (drop at s) ≡ part s at n
unfolding part
lent s at n = let e : at + n - at ≡ n = omega arith in ap (λ k. take k (drop at s)) e

pub length-lent : (s : Bytes) (at n : ℕ) → at + n ≤ length s → length (take (at + n - at) (drop at s)) ≡ n
length-lent s at n h =
    let e : at + n - at ≡ n = omega arith in
    rw e (length-take-le n (drop at s) (omega (arith, length-drop at s)))

pub lent_both : (s : Bytes) (a b : ℕ) {r : Bool} → r ≡ same_bytes (take (a + 64 - a) (drop a s)) (take (b + 64 - b) (drop b s)) → r ≡ same_bytes (part s a 64) (part s b 64)
lent_both s a b e = e ∙ ap (λ x. same_bytes x (take (b + 64 - b) (drop b s))) (lent s a 64) ∙ ap (λ x. same_bytes (part s a 64) x) (lent s b 64)

-- ---- addresses

same_swap : (s t : Bytes) → same_bytes s t ≡ same_bytes t s
same_swap s t =
    both_ways (same_bytes s t) (same_bytes t s)
    (λ e. ap (λ l. same_bytes l s) (sym (same_eq s t e)) ∙ same_refl s)
    (λ e. ap (λ l. same_bytes l t) (sym (same_eq t s e)) ∙ same_refl t)

address_is : (s : Bytes) (at : ℕ) → address_form (decode_endpoint (part s at 21)) ≡ (eqb (get_or s at 0) 16 || (eqb (get_or s at 0) 4 && same_bytes (replicate 12 0) (part s (at + 5) 12)))
address_is s at =
    let e : at + 1 + 4 ≡ at + 5 = omega arith in
    let pad : part (part s (at + 1) 16) 4 12 ≡ part s (at + 5) 12 = part-part s (at + 1) 16 4 12 (omega arith) ∙ ap (λ k. part s k 12) e in
    rw (decode-endpoint s at, pad, same_swap (part s (at + 5) 12) (replicate 12 0)) refl

pub long_address : (s : Bytes) (at : ℕ) → get_or s at 0 ≡ 16 → true ≡ address_form (decode_endpoint (part s at 21))
long_address s at e = sym (address_is s at ∙ rw (eq-eqb (get_or s at 0) 16 e) refl)

pub short_address : (s : Bytes) (at : ℕ) {z r : Bool} → (get_or s at 0 ≡ 16 → ⊥) → z ≡ same_bytes (replicate 12 0) (part s (at + 5) 12) → r ≡ (eqb (get_or s at 0) 4 && z)
    → r ≡ address_form (decode_endpoint (part s at 21))
short_address s at n ez er =
    er ∙ ap (λ b. eqb (get_or s at 0) 4 && b) ez ∙ sym (address_is s at ∙ rw (ne_eqb (get_or s at 0) 16 n) refl)

-- ---- records in a part of the bytes

pub all_records-part : (f : Bytes → Bool) (s : Bytes) (at k i n : ℕ) → i + n * 143 ≤ k → all_records f (part s at k) i n ≡ all_records f s (at + i) n
unfolding all_records
all_records-part f s at k i zero h = refl
all_records-part f s at k i (suc n) h =
    let e : at + (i + 143) ≡ at + i + 143 = omega arith in
    let rest : all_records f (part s at k) (i + 143) n ≡ all_records f s (at + i + 143) n = rw e at (all_records-part f s at k (i + 143) n (omega arith)) in
    rw (part-part s at k i 143 (omega arith), rest) refl

pub keys_apart-part : (s : Bytes) (at k i n j m : ℕ) → i + n * 143 ≤ k → j + m * 143 ≤ k → keys_apart (part s at k) i n j m ≡ keys_apart s (at + i) n (at + j) m
unfolding keys_apart
keys_apart-part s at k i zero j m h g = refl
keys_apart-part s at k i (suc n) j m h g =
    let e : at + (i + 143) ≡ at + i + 143 = omega arith in
    let rest : keys_apart (part s at k) (i + 143) n j m ≡ keys_apart s (at + i + 143) n (at + j) m = rw e at (keys_apart-part s at k (i + 143) n j m (omega arith) g) in
    let behind : entries_at (part s at k) (i + 143) n ≡ entries_at s (at + i + 143) n = rw e at (entries_at-part s at k (i + 143) n (omega arith)) in
    rw (part-part s at k i 64 (omega arith), rest, behind, entries_at-part s at k j m g) refl
