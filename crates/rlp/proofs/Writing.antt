-- Laws of writing: headers, strings, integers. Assumes nothing.
use Prim.Native.Nat.{ℕ, suc, ◌+◌, ◌*◌, ◌≤◌, ◌<◌, ◌^◌}
use mathlib.Core.Path.{◌≡◌, refl, sym, ap, ◌∙◌}
use mathlib.Core.Bool.{false}
use mathlib.Core.List.{[], ◌∷◌, ◌++◌}
use native.Mathlib.Omega.{arith}
use native.Mathlib.Decide.{dec_lt}
use borrow.Author.Tests.{lt-ltb, le-ltb}
use lib.ListN.{length, get_or, length-append}
use Rattle.octets.specs.Octets.{Bytes, number, number_from}
use Rattle.rlp.specs.Numbers.{uint_bytes}
use Rattle.rlp.specs.Encoding.{header, is_plain, encode, string, list}
use Rattle.rlp.proofs.Cases.{by_cases}
use Rattle.rlp.proofs.Numbers.{uint_bound, uint-number, uint-zero, uint_one}

-- ---- headers

pub header_short : (base n : ℕ) → n < 56 → header base n ≡ (base + n) ∷ []
unfolding header
header_short base n h = rw (lt-ltb n 56 h)

pub header-long : (base n : ℕ) → 56 ≤ n → header base n ≡ (base + 55 + length (uint_bytes n)) ∷ uint_bytes n
unfolding header
header-long base n h = rw (le-ltb n 56 h)

-- a header's size is that of either kind
pub header-length : (base base' n : ℕ) → length (header base n) ≡ length (header base' n)
header-length base base' n = elim (dec_lt n 56) [
  | yes l ↦ ap length (header_short base n l) ∙ sym (ap length (header_short base' n l))
  | no g ↦ ap length (header-long base n (omega arith)) ∙ sym (ap length (header-long base' n (omega arith)))
]

pub header_bound : (base n : ℕ) → n < 2 ^ 64 → length (header base n) ≤ 9
header_bound base n small = elim (dec_lt n 56) [
  | yes l ↦ omega (arith, ap length (header_short base n l))
  | no g ↦ omega (arith, ap length (header-long base n (omega arith)), uint_bound n small)
]

-- ---- strings

-- one byte below 0x80 is written as it is
pub one_byte : (s : Bytes) → length s ≡ 1 → s ≡ get_or s 0 0 ∷ []
one_byte [] h = absurd (omega arith)
one_byte (b ∷ []) h = refl
one_byte (b ∷ (a ∷ s)) h = absurd (omega arith)

pub encode-plain : (b : ℕ) → b < 0x80 → encode (string (b ∷ [])) ≡ b ∷ []
unfolding encode
encode-plain b h = rw (lt-ltb b 0x80 h)

pub encode_one : (s : Bytes) → length s ≡ 1 → get_or s 0 0 < 0x80 → encode (string s) ≡ get_or s 0 0 ∷ []
encode_one s one h = ap (λ (x : Bytes). encode (string x)) (one_byte s one) ∙ encode-plain (get_or s 0 0) h

-- any other string has a header
pub plain_not : (s : Bytes) → (length s ≡ 1 → 0x80 ≤ get_or s 0 0) → is_plain s ≡ false
plain_not [] h = refl
plain_not (b ∷ []) h = le-ltb b 0x80 (h refl)
plain_not (b ∷ (a ∷ s)) h = refl

pub encode_framed : (s : Bytes) → (length s ≡ 1 → 0x80 ≤ get_or s 0 0) → encode (string s) ≡ header 0x80 (length s) ++ s
unfolding encode
encode_framed s h = rw (plain_not s h)

-- a string's encoding is at most nine bytes longer
pub encode_bound : (s : Bytes) → length s < 2 ^ 64 → length (encode (string s)) ≤ 9 + length s
unfolding encode
encode_bound s small =
    by_cases (λ (x : Bytes). length x ≤ 9 + length s) (is_plain s) (λ _. omega arith)
    (λ _. omega (arith, length-append (header 0x80 (length s)) s, header_bound 0x80 (length s) small))

pub encode_list : (p : Bytes) → encode (list p) ≡ header 0xc0 (length p) ++ p
unfolding encode
encode_list p = refl

-- ---- integers

-- from 1 to 127, an integer is one byte
pub encode_uint_one : (n : ℕ) → 0 < n → n < 0x80 → encode (string (uint_bytes n)) ≡ n ∷ []
encode_uint_one n p h = ap (λ (x : Bytes). encode (string x)) (uint_one n p (omega arith)) ∙ encode-plain n h

-- 0, and any integer from 128 on, has a header of one byte
pub uint_framed : (n : ℕ) → (0 < n → 0x80 ≤ n) → length (uint_bytes n) ≡ 1 → 0x80 ≤ get_or (uint_bytes n) 0 0
unfolding number_from
uint_framed n h l =
    let v : 0 * 256 + get_or (uint_bytes n) 0 0 ≡ n = ap number (sym (one_byte (uint_bytes n) l)) ∙ uint-number n in
    elim (dec_lt 0 n) [ yes p ↦ omega (arith, h p) | no z ↦ absurd (omega (arith, ap length (uint-zero n (omega arith)))) ]

pub encode-uint : (n : ℕ) → n < 2 ^ 64 → (0 < n → 0x80 ≤ n) → encode (string (uint_bytes n)) ≡ (0x80 + length (uint_bytes n)) ∷ uint_bytes n
encode-uint n small h =
    encode_framed (uint_bytes n) (uint_framed n h) ∙ ap (λ (x : Bytes). x ++ uint_bytes n) (header_short 0x80 (length (uint_bytes n)) (omega (arith, uint_bound n small)))

-- the sizes of integers
pub uint_size_small : (n : ℕ) → n < 0x80 → length (encode (string (uint_bytes n))) ≡ 1
uint_size_small n h = elim (dec_lt 0 n) [
  | yes p ↦ ap length (encode_uint_one n p h)
  | no z ↦ ap length (encode-uint n (omega arith) (λ p. absurd (omega arith))) ∙ ap (λ (x : Bytes). suc (length x)) (uint-zero n (omega arith))
]

pub uint_size_large : (n : ℕ) → n < 2 ^ 64 → 0x80 ≤ n → length (encode (string (uint_bytes n))) ≡ 1 + length (uint_bytes n)
uint_size_large n small h = ap length (encode-uint n small (λ _. h)) ∙ omega arith

pub uint_size_bound : (n : ℕ) → n < 2 ^ 64 → length (encode (string (uint_bytes n))) ≤ 9
uint_size_bound n small = elim (dec_lt n 0x80) [
  | yes l ↦ omega (arith, uint_size_small n l)
  | no g ↦ omega (arith, uint_size_large n small (omega arith), uint_bound n small)
]
