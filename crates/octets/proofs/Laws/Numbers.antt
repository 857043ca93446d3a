-- Laws of big-endian numbers, over any width. Assumes nothing.
use mathlib.Core.Path.{◌≡◌, refl, sym, ap, ◌∙◌}
use mathlib.Core.List.{List, [], ◌∷◌, ◌++◌, append-nil}
use Prim.Native.Nat.{ℕ, zero, suc, ◌+◌, ◌-◌, ◌*◌, ◌/◌, ◌%◌, ◌^◌, ◌≤◌, ◌<◌}
use native.Mathlib.Nat.{pow-suc, pow-le-pow_right, div-lt_iff_lt-mul, div-add-mod', zero-lt-suc, add-zero, zero-add, pow-succ', mul_assoc, mul-le-mul_right, le-add_right, le_trans, le-div_iff_mul-le}
use native.Mathlib.Omega.{arith}
use lib.ListN.{length, take, drop, set, get_or, length-append, length-drop, get_or-append}
use native.Mathlib.Numerals.{add-one}
use lib.Seq.{take-suc, get_or-drop, append_snoc}
use lib.Arith.{digits_div, digits_mod}
use Rattle.octets.specs.Octets.{Bytes, IsBytes, part, store, number_from, number, big_endian}
use Rattle.octets.specs.Claims.{NumberBigEndian, BigEndianNumber}
use Rattle.octets.proofs.Laws.Stores.{store_last}
use Rattle.octets.proofs.Laws.Parts.{length_part}
use Rattle.octets.proofs.Laws.Slices.{bytes_part, bytes_append}

pub length-big_endian : (w x : ℕ) → length (big_endian w x) ≡ w
unfolding big_endian
length-big_endian zero x = refl
length-big_endian (suc w) x = simp (length-append, length-big_endian w (x / 256)) (omega arith)

pub number_from-append : (s t : List ℕ) (a : ℕ) → number_from a (s ++ t) ≡ number_from (number_from a s) t
unfolding number_from
number_from-append [] t a = refl
number_from-append (b ∷ s) t a = number_from-append s t (a * 256 + b)

pub number-big_endian : NumberBigEndian
unfolding big_endian number_from
number-big_endian zero x h = omega arith
number-big_endian (suc w) x h =
    let less : x / 256 < 256 ^ w = (div-lt_iff_lt-mul (zero-lt-suc 255)).1 (rw pow-suc at h) in
    number_from-append (big_endian w (x / 256)) (x % 256 ∷ []) 0
    ∙ ap (λ (n : ℕ). n * 256 + x % 256) (number-big_endian w (x / 256) less)
    ∙ div-add-mod' x 256

-- a number of n bytes fits n bytes
pub number_from_less : (s : List ℕ) (a i : ℕ) → a < 256 ^ i → IsBytes s → number_from a s < 256 ^ (i + length s)
unfolding number_from
number_from_less [] a i h bs = rw add-zero h
number_from_less (b ∷ s) a i h bs =
    let one : a * 256 + b < 256 ^ suc i = rw pow-suc (omega (arith, bs 0)) in
    let e : suc i + length s ≡ i + suc (length s) = omega arith in
    rw e at (number_from_less s (a * 256 + b) (suc i) one (λ k. bs (suc k)))

-- one byte more of a number
pub number_next : (s : List ℕ) (at i : ℕ) → at + i < length s → number (part s at (i + 1)) ≡ number (part s at i) * 256 + get_or s (at + i) 0
unfolding part number_from
number_next s at i h =
    let t : part s at (i + 1) ≡ part s at i ++ (get_or (drop at s) i 0 ∷ []) =
    rw add-one (take-suc (drop at s) i 0 (omega (arith, length-drop at s))) in
    ap number t
    ∙ number_from-append (take i (drop at s)) (get_or (drop at s) i 0 ∷ []) 0
    ∙ ap (λ (b : ℕ). number (part s at i) * 256 + b) (get_or-drop at s i 0)

-- one byte more fits one byte more
pub next_less : (i : ℕ) {a b : ℕ} → a < 256 ^ i → b < 256 → a * 256 + b < 256 ^ (i + 1)
next_less i h k = rw (add-one, pow-suc) (omega arith)

-- what fits i + 1 bytes, of at most 8, fits 64 bits
pub fits_8 : (i : ℕ) {n : ℕ} → n < 256 ^ (i + 1) → i < 8 → n < 2 ^ 64
fits_8 i h k =
    let i8 : i + 1 ≤ 8 = omega arith in
    let le : 256 ^ (i + 1) ≤ 256 ^ 8 = pow-le-pow_right (zero-lt-suc 255) i8 in
    omega arith

-- the last byte of a number is written first
pub store-big_endian : (s : List ℕ) (at i x : ℕ) → 0 < i → store (set s (at + (i - 1)) (x % 256)) at (big_endian (i - 1) (x / 256)) ≡ store s at (big_endian i x)
unfolding big_endian
store-big_endian s at zero x h = absurd (omega arith)
store-big_endian s at (suc j) x h =
    let e : suc j - 1 ≡ j = omega arith in
    ap (λ (n : ℕ). store (set s (at + n) (x % 256)) at (big_endian n (x / 256))) e
    ∙ ap (λ (n : ℕ). store (set s (at + n) (x % 256)) at (big_endian j (x / 256))) (sym (length-big_endian j (x / 256)))
    ∙ store_last (big_endian j (x / 256)) s at (x % 256)

-- n bytes make a number below 256 ^ n
pub number_less : (s : List ℕ) (at n : ℕ) → at + n ≤ length s → IsBytes s → number (part s at n) < 256 ^ n
number_less s at n h bs =
    rw (length_part s at n h, zero-add n) at (number_from_less (part s at n) 0 0 (omega arith) (bytes_part s at n bs))

-- bytes are read back from their number: what stands before them is the number that they go on from
pub big_endian_from : (s : Bytes) (w a : ℕ) → IsBytes s → big_endian (w + length s) (number_from a s) ≡ big_endian w a ++ s
unfolding big_endian number_from
big_endian_from [] w a bs = rw (add-zero, append-nil)
big_endian_from (b ∷ s) w a bs =
    let e : w + suc (length s) ≡ suc w + length s = omega arith in
    ap (λ (n : ℕ). big_endian n (number_from (a * 256 + b) s)) e
    ∙ big_endian_from s (suc w) (a * 256 + b) (λ k. bs (suc k))
    ∙ ap (λ (q : ℕ). (big_endian w q ++ ((a * 256 + b) % 256 ∷ [])) ++ s) (digits_div a (bs 0))
    ∙ ap (λ (r : ℕ). (big_endian w a ++ (r ∷ [])) ++ s) (digits_mod a (bs 0))
    ∙ append_snoc (big_endian w a) b s

pub big_endian-number : BigEndianNumber
unfolding big_endian
big_endian-number s bs = rw (zero-add (length s)) at (big_endian_from s 0 0 bs)

-- what a number is at least, by the digits before the last ones
pub number_from_least : (s : Bytes) (a : ℕ) → a * 256 ^ length s ≤ number_from a s
unfolding number_from
number_from_least [] a = omega arith
number_from_least (b ∷ s) a =
    let ih : (a * 256 + b) * 256 ^ length s ≤ number_from (a * 256 + b) s = number_from_least s (a * 256 + b) in
    let le : (a * 256) * 256 ^ length s ≤ (a * 256 + b) * 256 ^ length s = mul-le-mul_right (256 ^ length s) (le-add_right (a * 256) b) in
    rw (pow-succ', ← mul_assoc) (le_trans le ih)

-- the bytes of a number are bytes
pub bytes_big_endian : (w x : ℕ) → IsBytes (big_endian w x)
unfolding big_endian
bytes_big_endian zero x = λ i. omega arith
bytes_big_endian (suc w) x = bytes_append (big_endian w (x / 256)) (x % 256 ∷ []) (bytes_big_endian w (x / 256)) one
  where
    one : IsBytes (x % 256 ∷ [])
    one zero = omega arith
    one (suc i) = omega arith

-- the first byte of a number that needs all of the width is not 0
pub big_endian_lead : (w x : ℕ) → 256 ^ w ≤ x → x < 256 ^ suc w → 0 < get_or (big_endian (suc w) x) 0 0
unfolding big_endian
big_endian_lead zero x h l = omega arith
big_endian_lead (suc w) x h l =
    let low : 256 ^ w ≤ x / 256 = (le-div_iff_mul-le (zero-lt-suc 255)).1 (rw pow-suc at h) in
    let high : x / 256 < 256 ^ suc w = (div-lt_iff_lt-mul (zero-lt-suc 255)).1 (rw pow-suc at l) in
    rw (get_or-append (big_endian (suc w) (x / 256)) (x % 256 ∷ []) 0 0 (omega (arith, length-big_endian (suc w) (x / 256)))) (big_endian_lead w (x / 256) low high)
