-- Laws of the table's header: what is read from it, and what it is where its bytes are sound. Assumes nothing.
use mathlib.Core.Path.{◌≡◌, refl, sym, ap, ◌∙◌}
use mathlib.Core.Bool.{true, false, ◌&&◌}
use mathlib.Core.List.{[], ◌++◌, append_assoc}
use Prim.Native.Nat.{ℕ, ◌+◌, ◌^◌, ◌≤◌, ◌<◌}
use native.Mathlib.Omega.{arith}
use borrow.Author.Tests.{leb-true, eqb-true, le-leb, eq-eqb}
use lib.Dec.{eqb, leb}
use lib.ListN.{length, take, drop, replicate, length-append, length-replicate, take-append-drop}
use lib.Seq.{take-add}
use Rattle.octets.specs.Octets.{Bytes, IsBytes, part, store, number, big_endian, same_bytes}
use Rattle.octets.proofs.Laws.{part_middle, length_part, bytes_part, length-big_endian, number-big_endian, big_endian-number, same_eq, same_refl}
use Rattle.lists.proofs.Laws.{by_test, and_left, and_right}
use Rattle.table_model.specs.Layout.{encode_header, offset_of, own_of, clock_of, count_of, header_sound}
use Rattle.table_model.proofs.Records.{store_middle}

pub length-encode_header : (own : Bytes) (clock count : ℕ) → length own ≡ 32 → length (encode_header own clock count) ≡ 512
unfolding encode_header
length-encode_header own clock count n = simp (length-append, length-big_endian, length-replicate, n)

-- a header, with anything behind it
module _ (own : Bytes) (clock count : ℕ) (rest : Bytes) (n : length own ≡ 32) where
  abbrev headed : Bytes
  headed = encode_header own clock count ++ rest

  pub own-header : own_of headed ≡ own
  unfolding encode_header
  own-header =
      part_middle headed [] own (big_endian 8 clock ++ big_endian 2 count ++ replicate 470 0 ++ rest) 0 32 (simp append_assoc) refl n

  pub clock-header : clock < 2 ^ 64 → clock_of headed ≡ clock
  unfolding encode_header
  clock-header h =
      ap number
      (part_middle headed own (big_endian 8 clock) (big_endian 2 count ++ replicate 470 0 ++ rest) 32 8 (simp append_assoc) n (length-big_endian 8 clock))
      ∙ number-big_endian 8 clock h

  pub count-header : count ≤ 256 → count_of headed ≡ count
  unfolding encode_header
  count-header h =
      ap number
      (part_middle headed (own ++ big_endian 8 clock) (big_endian 2 count) (replicate 470 0 ++ rest) 40 2 (simp append_assoc)
      (simp (length-append, length-big_endian, n)) (length-big_endian 2 count))
      ∙ number-big_endian 2 count (omega arith)

  pub zeros-header : part headed 42 470 ≡ replicate 470 0
  unfolding encode_header
  zeros-header =
      part_middle headed (own ++ big_endian 8 clock ++ big_endian 2 count) (replicate 470 0) rest 42 470 refl
      (simp (length-append, length-big_endian, n)) (length-replicate {A = ℕ} 470 0)

  -- the clock is stored: the header with that clock
  pub store-clock : (now : ℕ) → store headed 32 (big_endian 8 now) ≡ encode_header own now count ++ rest
  unfolding encode_header
  store-clock now =
      let tail : Bytes = big_endian 2 count ++ replicate 470 0 ++ rest in
      let e : headed ≡ own ++ big_endian 8 clock ++ tail = simp append_assoc in
      let e' : own ++ big_endian 8 now ++ tail ≡ encode_header own now count ++ rest = simp append_assoc in
      ap (λ l. store l 32 (big_endian 8 now)) e
      ∙ store_middle own (big_endian 8 clock) (big_endian 8 now) tail 32 n (length-big_endian 8 now ∙ sym (length-big_endian 8 clock))
      ∙ e'

-- what the test of the header says
pub record HeaderSound (s : Bytes) : Type 0 where
  pub one : 1 ≤ count_of s
  pub most : count_of s ≤ 256
  pub size : length s ≡ offset_of (count_of s)
  pub zeros : part s 42 470 ≡ replicate 470 0

pub header-sound : (s : Bytes) → header_sound s ≡ true → HeaderSound s
unfolding header_sound
header-sound s h =
    let a = leb 1 (count_of s) in
    let b = leb (count_of s) 256 in
    let c = eqb (length s) (offset_of (count_of s)) in
    let d = same_bytes (part s 42 470) (replicate 470 0) in
    let h₁ : (b && (c && d)) ≡ true = and_right a (b && (c && d)) h in
    let h₂ : (c && d) ≡ true = and_right b (c && d) h₁ in
    record {
      one = leb-true 1 (count_of s) (and_left a (b && (c && d)) h);
      most = leb-true (count_of s) 256 (and_left b (c && d) h₁);
      size = eqb-true (length s) (offset_of (count_of s)) (and_left c d h₂);
      zeros = same_eq (part s 42 470) (replicate 470 0) (and_right c d h₂);
    }

pub sound-header : (s : Bytes) → HeaderSound s → header_sound s ≡ true
unfolding header_sound
sound-header s h =
    let same : same_bytes (part s 42 470) (replicate 470 0) ≡ true = ap (λ l. same_bytes l (replicate 470 0)) h.zeros ∙ same_refl (replicate 470 0) in
    cc (le-leb 1 (count_of s) h.one, le-leb (count_of s) 256 h.most, eq-eqb (length s) (offset_of (count_of s)) h.size, same)

pub header_unsound : (s : Bytes) → (HeaderSound s → ⊥) → header_sound s ≡ false
header_unsound s n = by_test (header_sound s) (λ h. absurd (n (header-sound s h))) (λ h. h)

-- where the rest holds, the test is that of the zeros
pub header_zeros : (s : Bytes) → 1 ≤ count_of s → count_of s ≤ 256 → length s ≡ offset_of (count_of s)
    → header_sound s ≡ same_bytes (part s 42 470) (replicate 470 0)
unfolding header_sound
header_zeros s a b c = simp (le-leb 1 (count_of s) a, le-leb (count_of s) 256 b, eq-eqb (length s) (offset_of (count_of s)) c)

-- bytes with a sound header are that header's one byte form, and what is behind it
pub header_form : (s : Bytes) → IsBytes s → HeaderSound s → s ≡ encode_header (own_of s) (clock_of s) (count_of s) ++ drop 512 s
unfolding encode_header part
header_form s bs h =
    let n : 512 ≤ length s = omega (arith, h.size) in
    let clock : big_endian 8 (clock_of s) ≡ take 8 (drop 32 s) =
    ap (λ (w : ℕ). big_endian w (clock_of s)) (sym (length_part s 32 8 (omega arith))) ∙ big_endian-number (part s 32 8) (bytes_part s 32 8 bs) in
    let count : big_endian 2 (count_of s) ≡ take 2 (drop 40 s) =
    ap (λ (w : ℕ). big_endian w (count_of s)) (sym (length_part s 40 2 (omega arith))) ∙ big_endian-number (part s 40 2) (bytes_part s 40 2 bs) in
    let e₁ : take 40 s ≡ take 32 s ++ take 8 (drop 32 s) = take-add 32 8 s in
    let e₂ : take 42 s ≡ take 40 s ++ take 2 (drop 40 s) = take-add 40 2 s in
    let e₃ : take 512 s ≡ take 42 s ++ take 470 (drop 42 s) = take-add 42 470 s in
    let zeros : take 470 (drop 42 s) ≡ replicate 470 0 = h.zeros in
    let e : take 512 s ≡ take 32 s ++ big_endian 8 (clock_of s) ++ big_endian 2 (count_of s) ++ replicate 470 0 = cc in
    sym (take-append-drop 512 s) ∙ ap (λ l. l ++ drop 512 s) e
