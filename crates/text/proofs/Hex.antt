-- Laws of hex: what is written reads back, and what is read is the hex of those bytes. Assumes nothing.
use Prim.Native.Nat.{ℕ, zero, suc, ◌+◌, ◌*◌, ◌/◌, ◌%◌, ◌≤◌, ◌<◌}
use mathlib.Core.Path.{◌≡◌, refl, sym, ap, ◌∙◌}
use mathlib.Core.Bool.{true, false, not, ◌&&◌}
use mathlib.Core.List.{[], ◌∷◌, ◌++◌, map}
use mathlib.Core.Logic.{◌⊎◌, inl, inr, ⊎_elim}
use native.Mathlib.Decide.{dec_lt}
use native.Mathlib.Omega.{arith}
use native.Mathlib.Numerals.{add-one}
use borrow.Author.Tests.{lt-ltb, le-ltb, le-leb, lt-leb, leb-true}
use lib.Arith.{digits_div, digits_mod}
use lib.Dec.{ltb, leb}
use lib.ListN.{length, get_or, take, set}
use lib.Seq.{take-suc}
use Rattle.std.specs.List.{list_all}
use Rattle.std.proofs.Math.Bool.{and_assoc, and-false}
use Rattle.octets.specs.Octets.{Bytes, IsBytes, store}
use Rattle.octets.proofs.Laws.{store-append}
use Rattle.lists.specs.Lists.{all, empty}
use Rattle.lists.proofs.Laws.{by_test, never, and_left, and_right}
use Rattle.text.specs.Hex.{hex_digit, hex, is_hex_digit, is_any_hex_digit, lower, hex_pairs, is_hex, hex_value, unhex}
use Rattle.text.specs.Claims.{HexRead, HexSound}

-- ---- digits

-- the digit of a number is a digit, and its value is that number
digit_below : (d : ℕ) → d < 16 → (is_hex_digit (hex_digit d) ≡ true) × (hex_value (hex_digit d) ≡ d)
unfolding hex_value
digit_below d l = elim (dec_lt d 10) [
  | yes s ↦ rw (lt-ltb d 10 s) (rw (le-leb 48 (48 + d) (omega arith), le-leb (48 + d) 57 (omega arith)) refl, rw (lt-ltb (48 + d) 58 (omega arith)) (omega arith))
  | no g ↦ rw (le-ltb d 10 (omega arith)) (
    rw (le-leb 48 (87 + d) (omega arith), lt-leb (87 + d) 57 (omega arith), le-leb 97 (87 + d) (omega arith), le-leb (87 + d) 102 (omega arith)) refl,
    rw (le-ltb (87 + d) 58 (omega arith)) (omega arith),
  )
]

pub value_below : (b : ℕ) → hex_value b < 16
unfolding hex_value
value_below b = by_test (ltb b 58) (λ e. rw e (omega arith)) (λ e. rw e (omega arith))

digit_range : (b : ℕ) → is_hex_digit b ≡ true → ((48 ≤ b) × (b ≤ 57)) ⊎ ((97 ≤ b) × (b ≤ 102))
digit_range b h =
    by_test (leb 48 b && leb b 57)
    (λ e. inl (leb-true 48 b (and_left (leb 48 b) (leb b 57) e), leb-true b 57 (and_right (leb 48 b) (leb b 57) e)))
    (λ e. let g : (leb 97 b && leb b 102) ≡ true = rw e at h in inr (leb-true 97 b (and_left (leb 97 b) (leb b 102) g), leb-true b 102 (and_right (leb 97 b) (leb b 102) g)))

-- the value of a digit is the number that has it
value_digit : (b : ℕ) → is_hex_digit b ≡ true → hex_digit (hex_value b) ≡ b
unfolding hex_value
value_digit b h =
    ⊎_elim
    (λ r. rw (lt-ltb b 58 (omega arith), lt-ltb (b % 16) 10 (omega arith)) (omega arith))
    (λ r. rw (le-ltb b 58 (omega arith), le-ltb ((b % 16 + 9) % 16) 10 (omega arith)) (omega arith))
    (digit_range b h)

-- ---- both ways

pub unhex-hex : (s : Bytes) → IsBytes s → unhex (hex s) ≡ s
unfolding unhex
unhex-hex [] bs = refl
unhex-hex (b ∷ s) bs =
    let whole : hex_value (hex_digit (b / 16)) * 16 + hex_value (hex_digit (b % 16)) ≡ b =
    omega (arith, (digit_below (b / 16) (omega (arith, bs 0))).1, (digit_below (b % 16) (omega arith)).1) in
    cc (whole, unhex-hex s (λ i. bs (suc i)))

pairs_hex : (s : Bytes) → IsBytes s → hex_pairs (hex s) ≡ true
pairs_hex [] bs = refl
pairs_hex (b ∷ s) bs = rw ((digit_below (b / 16) (omega (arith, bs 0))).0, (digit_below (b % 16) (omega arith)).0) (pairs_hex s (λ i. bs (suc i)))

pub hex_read : HexRead
unfolding is_hex
hex_read [] bs p = absurd (omega arith)
hex_read (b ∷ s) bs p = (pairs_hex (b ∷ s) bs, unhex-hex (b ∷ s) bs)

pairs_sound : (s : Bytes) → hex_pairs s ≡ true → hex (unhex s) ≡ s
unfolding unhex
pairs_sound [] h = refl
pairs_sound (a ∷ []) h = never (sym h)
pairs_sound (a ∷ b ∷ s) h =
    let both : (is_hex_digit a && is_hex_digit b) ≡ true = and_left (is_hex_digit a && is_hex_digit b) (hex_pairs s) h in
    let high : hex_digit ((hex_value a * 16 + hex_value b) / 16) ≡ a = ap hex_digit (digits_div (hex_value a) (value_below b)) ∙ value_digit a (and_left (is_hex_digit a) (is_hex_digit b) both) in
    let low : hex_digit ((hex_value a * 16 + hex_value b) % 16) ≡ b = ap hex_digit (digits_mod (hex_value a) (value_below b)) ∙ value_digit b (and_right (is_hex_digit a) (is_hex_digit b) both) in
    ap (λ (x : ℕ). x ∷ hex_digit ((hex_value a * 16 + hex_value b) % 16) ∷ hex (unhex s)) high
    ∙ ap (λ (x : ℕ). a ∷ x ∷ hex (unhex s)) low
    ∙ ap (λ (l : Bytes). a ∷ b ∷ l) (pairs_sound s (and_right (is_hex_digit a && is_hex_digit b) (hex_pairs s) h))

pub hex-sound : HexSound
unfolding is_hex
hex-sound s h = pairs_sound s (and_right (not (empty s)) (hex_pairs s) h)

-- ---- digits of either case

-- what the test of a digit of either case says
any_upper : (b : ℕ) → (leb 65 b && leb b 70) ≡ true → (65 ≤ b) × (b ≤ 70)
any_upper b e = (leb-true 65 b (and_left (leb 65 b) (leb b 70) e), leb-true b 70 (and_right (leb 65 b) (leb b 70) e))

lower_digit : (b : ℕ) → is_any_hex_digit b ≡ true → is_hex_digit (lower b) ≡ true
lower_digit b h =
    by_test (leb 65 b && leb b 70)
    (λ e.
    let r : (65 ≤ b) × (b ≤ 70) = any_upper b e in
    rw (e, le-leb 48 (b + 32) (omega arith), lt-leb (b + 32) 57 (omega arith), le-leb 97 (b + 32) (omega arith), le-leb (b + 32) 102 (omega arith)))
    (λ e. rw e (rw e at h))

digit_lower : (b : ℕ) → is_hex_digit (lower b) ≡ true → is_any_hex_digit b ≡ true
digit_lower b h = by_test (leb 65 b && leb b 70) (λ e. rw e) (λ e. rw e (rw e at h))

value_lower : (b : ℕ) → hex_value (lower b) ≡ hex_value b
unfolding hex_value
value_lower b =
    by_test (leb 65 b && leb b 70)
    (λ e.
    let r : (65 ≤ b) × (b ≤ 70) = any_upper b e in
    rw (e, le-ltb (b + 32) 58 (omega arith), le-ltb b 58 (omega arith)) (omega arith))
    (λ e. rw e)

-- the case says nothing
pub unhex-lower : (s : Bytes) → unhex (map lower s) ≡ unhex s
unfolding unhex
unhex-lower [] = refl
unhex-lower (a ∷ []) = refl
unhex-lower (a ∷ b ∷ s) = rw (value_lower a, value_lower b, unhex-lower s)

pairs_lower : (s : Bytes) → length s % 2 ≡ 0 → all is_any_hex_digit s ≡ true → hex_pairs (map lower s) ≡ true
pairs_lower [] h d = refl
pairs_lower (a ∷ []) h d = absurd (omega arith)
pairs_lower (a ∷ b ∷ s) h d =
    let more : all is_any_hex_digit (b ∷ s) ≡ true = and_right (is_any_hex_digit a) (all is_any_hex_digit (b ∷ s)) d in
    rw (
      lower_digit a (and_left (is_any_hex_digit a) (all is_any_hex_digit (b ∷ s)) d),
      lower_digit b (and_left (is_any_hex_digit b) (all is_any_hex_digit s) more),
    ) (pairs_lower s (omega arith) (and_right (is_any_hex_digit b) (all is_any_hex_digit s) more))

-- what is read of whole bytes in hex of either case has them in lower case as its hex
pub hex-lower : (s : Bytes) → length s % 2 ≡ 0 → all is_any_hex_digit s ≡ true → hex (unhex s) ≡ map lower s
hex-lower s h d = ap hex (sym (unhex-lower s)) ∙ pairs_sound (map lower s) (pairs_lower s h d)

lower_pairs : (s : Bytes) → hex_pairs (map lower s) ≡ true → all is_any_hex_digit s ≡ true
lower_pairs [] h = refl
lower_pairs (a ∷ []) h = never (sym h)
lower_pairs (a ∷ b ∷ s) h =
    let both : (is_hex_digit (lower a) && is_hex_digit (lower b)) ≡ true = and_left (is_hex_digit (lower a) && is_hex_digit (lower b)) (hex_pairs (map lower s)) h in
    rw (
      digit_lower a (and_left (is_hex_digit (lower a)) (is_hex_digit (lower b)) both),
      digit_lower b (and_right (is_hex_digit (lower a)) (is_hex_digit (lower b)) both),
    ) (lower_pairs s (and_right (is_hex_digit (lower a) && is_hex_digit (lower b)) (hex_pairs (map lower s)) h))

-- a text that is the hex of bytes in lower case is hex of either case, and says them
pub lower-hex : (s t : Bytes) → IsBytes t → map lower s ≡ hex t → (all is_any_hex_digit s ≡ true) × (unhex s ≡ t)
lower-hex s t bs e =
    (lower_pairs s (ap hex_pairs e ∙ pairs_hex t bs), sym (unhex-lower s) ∙ ap unhex e ∙ unhex-hex t bs)

-- what hex says is bytes
pub bytes_unhex : (s : Bytes) → IsBytes (unhex s)
unfolding unhex
bytes_unhex [] i = omega arith
bytes_unhex (a ∷ []) i = omega arith
bytes_unhex (a ∷ b ∷ s) zero = omega (arith, value_below a, value_below b)
bytes_unhex (a ∷ b ∷ s) (suc i) = bytes_unhex s i

-- ---- sizes, and one byte more

pub length-hex : (s : Bytes) → length (hex s) ≡ 2 * length s
length-hex [] = refl
length-hex (b ∷ s) = omega (arith, length-hex s)

pub length-unhex : (s : Bytes) → length (unhex s) ≡ length s / 2
unfolding unhex
length-unhex [] = refl
length-unhex (a ∷ []) = refl
length-unhex (a ∷ b ∷ s) = omega (arith, length-unhex s)

hex-append : (s t : Bytes) → hex (s ++ t) ≡ hex s ++ hex t
hex-append [] t = refl
hex-append (b ∷ s) t = ap (λ (l : Bytes). hex_digit (b / 16) ∷ hex_digit (b % 16) ∷ l) (hex-append s t)

-- the hex of one byte more is stored
pub store-hex : (s src : Bytes) (at i next : ℕ) → i < length src → next ≡ at + length (hex (take i src))
    → set (set (store s at (hex (take i src))) next (hex_digit (get_or src i 0 / 16))) (next + 1) (hex_digit (get_or src i 0 % 16)) ≡ store s at (hex (take (i + 1) src))
store-hex s src at i next h e =
    let b : ℕ = get_or src i 0 in
    let more : hex (take (i + 1) src) ≡ hex (take i src) ++ hex_digit (b / 16) ∷ hex_digit (b % 16) ∷ [] =
    rw add-one (ap hex (take-suc src i 0 h) ∙ hex-append (take i src) (b ∷ [])) in
    rw (e, add-one (at + length (hex (take i src)))) (sym (ap (λ (v : Bytes). store s at v) more ∙ store-append (hex (take i src)) (hex_digit (b / 16) ∷ hex_digit (b % 16) ∷ []) s at))

pub unhex_at : (s : Bytes) (i : ℕ) → i < length s / 2 → get_or (unhex s) i 0 ≡ hex_value (get_or s (2 * i) 0) * 16 + hex_value (get_or s (2 * i + 1) 0)
unfolding unhex
unhex_at [] i h = absurd (omega arith)
unhex_at (a ∷ []) i h = absurd (omega arith)
unhex_at (a ∷ b ∷ s) zero h = refl
unhex_at (a ∷ b ∷ s) (suc i) h =
    let e : 2 * suc i ≡ suc (suc (2 * i)) = omega arith in
    let f : suc (suc (2 * i)) + 1 ≡ suc (suc (2 * i + 1)) = omega arith in
    rw (e, f) (unhex_at s i (omega arith))

-- ---- whole bytes

-- the digits of whole bytes
pairs_all : (s : Bytes) → length s % 2 ≡ 0 → hex_pairs s ≡ list_all is_hex_digit s
pairs_all [] h = refl
pairs_all (a ∷ []) h = absurd (omega arith)
pairs_all (a ∷ b ∷ s) h = rw (pairs_all s (omega arith), and_assoc (is_hex_digit a) (is_hex_digit b) (list_all is_hex_digit s))

pairs_odd : (s : Bytes) → length s % 2 ≡ 1 → hex_pairs s ≡ false
pairs_odd [] h = absurd (omega arith)
pairs_odd (a ∷ []) h = refl
pairs_odd (a ∷ b ∷ s) h = rw (pairs_odd s (omega arith), and-false (is_hex_digit a && is_hex_digit b))

pub hex_empty : (s : Bytes) → length s ≡ 0 → is_hex s ≡ false
unfolding is_hex
hex_empty [] h = refl
hex_empty (b ∷ s) h = absurd (omega arith)

pub hex_odd : (s : Bytes) → length s % 2 ≡ 1 → is_hex s ≡ false
unfolding is_hex
hex_odd s h = rw (pairs_odd s h, and-false (not (empty s)))

pub hex_whole : (s : Bytes) → 0 < length s → length s % 2 ≡ 0 → is_hex s ≡ list_all is_hex_digit s
unfolding is_hex
hex_whole [] p h = absurd (omega arith)
hex_whole (b ∷ s) p h = pairs_all (b ∷ s) h
