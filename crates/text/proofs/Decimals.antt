-- Laws of decimals: how a decimal is made, and that it reads back, both ways. Assumes nothing.
use Prim.Native.Nat.{ℕ, zero, suc, ◌+◌, ◌-◌, ◌*◌, ◌/◌, ◌%◌, ◌^◌, ◌≤◌, ◌<◌}
use mathlib.Core.Path.{◌≡◌, refl, sym, ap, ◌∙◌}
use mathlib.Core.Bool.{true, false, ◌&&◌}
use mathlib.Core.List.{[], ◌∷◌, ◌++◌, append-nil}
use native.Mathlib.Nat.{pow-suc, div-lt_iff_lt-mul, zero-lt-suc}
use native.Mathlib.Decide.{dec_lt}
use native.Mathlib.Omega.{arith}
use borrow.Author.Tests.{lt-ltb, le-ltb, le-leb, eq-eqb, ne_eqb, leb-true}
use lib.Arith.{digits_div, digits_mod}
use lib.Dec.{leb, eqb}
use lib.ListN.{length, get_or, set, length-append}
use lib.Seq.{append_snoc}
use Rattle.octets.specs.Octets.{Bytes, store}
use Rattle.octets.proofs.Laws.{store_last}
use Rattle.lists.specs.Lists.{All}
use Rattle.lists.proofs.Laws.{by_test, never, and_left, and_right, All-append, All-imp}
use Rattle.std.specs.Prelude.{Some, None}
use Rattle.text.specs.Decimals.{digits, decimal, is_digit, digits_from, well_begun, decimal_of}
use Rattle.text.specs.Claims.{DecimalRead, DecimalSound}

-- any number of places that is enough gives the same
digits_enough : (j k n : ℕ) → n < j → n < k → digits j n ≡ digits k n
unfolding digits
digits_enough zero k n hj hk = absurd (omega arith)
digits_enough (suc j) zero n hj hk = absurd (omega arith)
digits_enough (suc j) (suc k) n hj hk = elim (dec_lt n 10) [
  | yes l ↦ rw (lt-ltb n 10 l)
  | no g ↦ rw (le-ltb n 10 (omega arith)) (ap (λ (s : Bytes). s ++ ((48 + n % 10) ∷ [])) (digits_enough j k (n / 10) (omega arith) (omega arith)))
]

pub decimal_one : (n : ℕ) → n < 10 → decimal n ≡ (48 + n) ∷ []
unfolding decimal digits
decimal_one n l = rw (lt-ltb n 10 l)

pub decimal_more : (n : ℕ) → 10 ≤ n → decimal n ≡ decimal (n / 10) ++ ((48 + n % 10) ∷ [])
unfolding decimal digits
decimal_more n g = rw (le-ltb n 10 g) (ap (λ (s : Bytes). s ++ ((48 + n % 10) ∷ [])) (digits_enough n (suc (n / 10)) (n / 10) (omega arith) (omega arith)))

-- one digit more
pub decimal_next : (a d : ℕ) → 0 < a → d < 10 → decimal (a * 10 + d) ≡ decimal a ++ ((48 + d) ∷ [])
decimal_next a d p l =
    decimal_more (a * 10 + d) (omega arith)
    ∙ ap (λ (q : ℕ). decimal q ++ ((48 + (a * 10 + d) % 10) ∷ [])) (digits_div a l)
    ∙ ap (λ (r : ℕ). decimal a ++ ((48 + r) ∷ [])) (digits_mod a l)

pub length_one : (n : ℕ) → n < 10 → length (decimal n) ≡ 1
length_one n l = rw (decimal_one n l)

pub length_more : (n : ℕ) → 10 ≤ n → length (decimal n) ≡ length (decimal (n / 10)) + 1
length_more n g = rw (decimal_more n g, length-append)

-- what is below a power of ten has no more digits than its exponent
pub length_below : (w n : ℕ) → n < 10 ^ suc w → length (decimal n) ≤ suc w
length_below zero n h = omega (arith, length_one n h)
length_below (suc w) n h = elim (dec_lt n 10) [
  | yes l ↦ omega (arith, length_one n l)
  | no g ↦ omega (arith, length_more n (omega arith), length_below w (n / 10) ((div-lt_iff_lt-mul (zero-lt-suc 9)).1 (rw pow-suc at h)))
]

-- a number of 64 bits has at most 20 digits
pub length_bound : (n : ℕ) → n < 2 ^ 64 → length (decimal n) ≤ 20
length_bound n h = length_below 19 n (omega arith)

pub length_least : (n : ℕ) → 0 < length (decimal n)
length_least n = elim (dec_lt n 10) [
  | yes l ↦ omega (arith, length_one n l)
  | no g ↦ omega (arith, length_more n (omega arith))
]

-- all of a decimal is digits
pub all_digits : (n : ℕ) → All (λ (b : ℕ). (48 ≤ b) × (b ≤ 57)) (decimal n)
all_digits n = below (suc n) n (omega arith)
  where
    below : (k n : ℕ) → n < k → All (λ (b : ℕ). (48 ≤ b) × (b ≤ 57)) (decimal n)
    below zero n h = absurd (omega arith)
    below (suc k) n h = elim (dec_lt n 10) [
      | yes l ↦ rw (decimal_one n l) ((omega arith, omega arith), tt)
      | no g ↦ rw (decimal_more n (omega arith))
          (All-append (λ (b : ℕ). (48 ≤ b) × (b ≤ 57)) (decimal (n / 10)) ((48 + n % 10) ∷ []) (below k (n / 10) (omega arith)) ((omega arith, omega arith), tt))
    ]

-- and has no byte in it that is no digit
pub no_mark : (mark n : ℕ) → is_digit mark ≡ false → All (λ (b : ℕ). eqb b mark ≡ false) (decimal n)
no_mark mark n h =
    All-imp (λ (b : ℕ). (48 ≤ b) × (b ≤ 57)) (λ (b : ℕ). eqb b mark ≡ false)
    (λ b d. ne_eqb b mark (λ e. never (sym (rw e at (digit-is b d)) ∙ h)))
    (decimal n)
    (all_digits n)
  where
    digit-is : (b : ℕ) → (48 ≤ b) × (b ≤ 57) → is_digit b ≡ true
    digit-is b d = rw (le-leb 48 b d.0, le-leb b 57 d.1)

-- the last digit of a decimal is written first
pub store-decimal : (s : Bytes) (at n i : ℕ) → 10 ≤ n → i + 1 ≡ at + length (decimal n) → store (set s i (48 + n % 10)) at (decimal (n / 10)) ≡ store s at (decimal n)
store-decimal s at n i g e =
    let place : i ≡ at + length (decimal (n / 10)) = omega (arith, length_more n g) in
    ap (λ (k : ℕ). store (set s k (48 + n % 10)) at (decimal (n / 10))) place
    ∙ store_last (decimal (n / 10)) s at (48 + n % 10)
    ∙ ap (λ (v : Bytes). store s at v) (sym (decimal_more n g))

-- the digits of the rest are still to be written over the bytes from index at up to i, the last first
pub record Written (old buf : Bytes) (at n rest i : ℕ) : Type 0 where
  pub more : at < i → (i ≡ at + length (decimal rest)) × (store buf at (decimal rest) ≡ store old at (decimal n))
  pub done : i ≤ at → buf ≡ store old at (decimal n)

pub unwritten : (old : Bytes) (at n : ℕ) → Written old old at n n (at + length (decimal n))
unwritten old at n = record { more = λ h. (refl, refl); done = λ h. absurd (omega (arith, length_least n)) }

pub written-more : (old buf : Bytes) (at n rest i : ℕ) → at < i → Written old buf at n rest i → Written old (set buf (i - 1) (48 + rest % 10)) at n (rest / 10) (i - 1)
written-more old buf at n rest i h w =
    let m : (i ≡ at + length (decimal rest)) × (store buf at (decimal rest) ≡ store old at (decimal n)) = w.more h in
    elim (dec_lt rest 10) [
      | yes l ↦
          let place : i - 1 ≡ at = omega (arith, length_one rest l) in
          let digit : rest % 10 ≡ rest = omega arith in
          record { more = λ g. absurd (omega arith); done = λ g. rw (place, digit) (rw (decimal_one rest l) at m.1) }
      | no g ↦
          let many : 10 ≤ rest = omega arith in
          record {
            more = λ k. (omega (arith, length_more rest many), store-decimal buf at rest (i - 1) many (omega arith) ∙ m.1);
            done = λ k. absurd (omega (arith, length_more rest many, length_least (rest / 10)));
          }
    ]

-- ---- reading

-- a digit is read
pub push-digit : (limit a d : ℕ) (s : Bytes) → d < 10 → a * 10 + d ≤ limit → digits_from limit a ((48 + d) ∷ s) ≡ digits_from limit (a * 10 + d) s
push-digit limit a d s l h =
    let e : 48 + d - 48 ≡ d = omega arith in
    rw (le-leb 48 (48 + d) (omega arith), le-leb (48 + d) 57 (omega arith), e, le-leb (a * 10 + d) limit h)

-- a decimal at the front is read as its number
reads_on : (k limit n : ℕ) (t : Bytes) → n < k → n ≤ limit → digits_from limit 0 (decimal n ++ t) ≡ digits_from limit n t
reads_on zero limit n t hk h = absurd (omega arith)
reads_on (suc k) limit n t hk h = elim (dec_lt n 10) [
  | yes l ↦ rw (decimal_one n l) (push-digit limit 0 n t l (omega arith) ∙ ap (λ (x : ℕ). digits_from limit x t) (omega arith))
  | no g ↦ rw (decimal_more n (omega arith), append_snoc)
      (reads_on k limit (n / 10) ((48 + n % 10) ∷ t) (omega arith) (omega arith)
      ∙ push-digit limit (n / 10) (n % 10) t (omega arith) (omega arith)
      ∙ ap (λ (x : ℕ). digits_from limit x t) (omega arith))
]

-- a decimal but `0` does not begin with `0`
begins : (k n : ℕ) (t : Bytes) → n < k → 0 < n → well_begun (decimal n ++ t) ≡ true
begins zero n t hk p = absurd (omega arith)
begins (suc k) n t hk p = elim (dec_lt n 10) [
  | yes l ↦ rw (decimal_one n l, ne_eqb (48 + n) 48 (λ e. omega arith))
  | no g ↦ rw (decimal_more n (omega arith), append_snoc) (begins k (n / 10) ((48 + n % 10) ∷ t) (omega arith) (omega arith))
]

begun : (n : ℕ) → well_begun (decimal n) ≡ true
begun zero = rw (decimal_one 0 (omega arith))
begun (suc n) = rw append-nil at (begins (suc (suc n)) (suc n) [] (omega arith) (omega arith))

pub decimal_read : DecimalRead
unfolding decimal_of
decimal_read limit n h = rw (begun n) (rw append-nil at (reads_on (suc n) limit n [] (omega arith) h))

not_value : {P : Type 0} {n : ℕ} → None ≡ Some n → P
not_value h = absurd (let z : ◌≡◌ {A = ℕ} 0 1 = cc in omega arith)

-- what is known of a first digit that was read
record Digit (limit a b : ℕ) (s : Bytes) (n : ℕ) : Type 0 where
  low : 48 ≤ b
  high : b ≤ 57
  fits : a * 10 + (b - 48) ≤ limit
  rest : digits_from limit (a * 10 + (b - 48)) s ≡ Some n

digit : (limit a b : ℕ) (s : Bytes) (n : ℕ) → digits_from limit a (b ∷ s) ≡ Some n → Digit limit a b s n
digit limit a b s n r =
    by_test (is_digit b && leb (a * 10 + (b - 48)) limit)
    (λ e.
    let d : is_digit b ≡ true = and_left (is_digit b) _ e in
    record {
      low = leb-true 48 b (and_left (leb 48 b) (leb b 57) d);
      high = leb-true b 57 (and_right (leb 48 b) (leb b 57) d);
      fits = leb-true _ limit (and_right (is_digit b) _ e);
      rest = rw e at r;
    })
    (λ e. not_value (rw e at r))

-- the number that is read has the digits of a and then s
digits-sound : (limit : ℕ) (s : Bytes) (a n : ℕ) → 0 < a → a ≤ limit → digits_from limit a s ≡ Some n → (decimal a ++ s ≡ decimal n) × (n ≤ limit)
digits-sound limit [] a n p h r = let e : a ≡ n = cc in (append-nil (decimal a) ∙ ap decimal e, omega arith)
digits-sound limit (b ∷ s) a n p h r =
    let d : Digit limit a b s n = digit limit a b s n r in
    let rest : (decimal (a * 10 + (b - 48)) ++ s ≡ decimal n) × (n ≤ limit) = digits-sound limit s (a * 10 + (b - 48)) n (omega arith) d.fits d.rest in
    let same : 48 + (b - 48) ≡ b = omega arith in
    let next : decimal (a * 10 + (b - 48)) ≡ decimal a ++ (b ∷ []) = rw same at (decimal_next a (b - 48) p (omega arith)) in
    (sym (append_snoc (decimal a) b s) ∙ ap (λ (x : Bytes). x ++ s) (sym next) ∙ rest.0, rest.1)

-- and so has a number read from its first digit on, if that is not `0` or stands alone
from_first : (limit b : ℕ) (s : Bytes) (n : ℕ) → well_begun (b ∷ s) ≡ true → Digit limit 0 b s n → (b ∷ s ≡ decimal n) × (n ≤ limit)
from_first limit b [] n w d =
    let e : 0 * 10 + (b - 48) ≡ n = (let r : Some (0 * 10 + (b - 48)) ≡ Some n = d.rest in cc) in
    let same : 48 + n ≡ b = omega arith in
    (sym (rw same at (decimal_one n (omega arith))), omega arith)
from_first limit b (c ∷ s) n w d =
    let ne : b ≡ 48 → ⊥ = λ e. never (sym (rw (eq-eqb b 48 e) at w)) in
    let rest : (decimal (0 * 10 + (b - 48)) ++ c ∷ s ≡ decimal n) × (n ≤ limit) = digits-sound limit (c ∷ s) (0 * 10 + (b - 48)) n (omega arith) d.fits d.rest in
    let same : 48 + (0 * 10 + (b - 48)) ≡ b = omega arith in
    let one : decimal (0 * 10 + (b - 48)) ≡ b ∷ [] = rw same at (decimal_one (0 * 10 + (b - 48)) (omega arith)) in
    (ap (λ (x : Bytes). x ++ c ∷ s) (sym one) ∙ rest.0, rest.1)

pub decimal-sound : DecimalSound
unfolding decimal_of
decimal-sound limit [] n r = not_value r
decimal-sound limit (b ∷ s) n r =
    by_test (well_begun (b ∷ s)) (λ w. from_first limit b s n w (digit limit 0 b s n (rw w at r))) (λ w. not_value (rw w at r))

-- what `push_digit` reads is where reading goes on
pub digits_on : (limit a b m : ℕ) (s : Bytes) → digits_from limit a (b ∷ []) ≡ Some m → digits_from limit a (b ∷ s) ≡ digits_from limit m s
digits_on limit a b m s r =
    by_test (is_digit b && leb (a * 10 + (b - 48)) limit)
    (λ e. let same : a * 10 + (b - 48) ≡ m = (let v : Some (a * 10 + (b - 48)) ≡ Some m = rw e at r in cc) in rw e (ap (λ (x : ℕ). digits_from limit x s) same))
    (λ e. not_value (rw e at r))

pub digits_off : (limit a b : ℕ) (s : Bytes) → digits_from limit a (b ∷ []) ≡ None → digits_from limit a (b ∷ s) ≡ None
digits_off limit a b s r =
    by_test (is_digit b && leb (a * 10 + (b - 48)) limit)
    (λ e. not_value (sym (rw e at r)))
    (λ e. rw e)

-- ---- how a decimal begins

pub begun_empty : (s : Bytes) → length s ≡ 0 → well_begun s ≡ false
begun_empty [] h = refl
begun_empty (b ∷ s) h = absurd (omega arith)

pub begun_zero : (s : Bytes) → (length s ≡ 0 → ⊥) → get_or s 0 0 ≡ 48 → well_begun s ≡ eqb (length s) 1
begun_zero [] h z = absurd (h refl)
begun_zero (b ∷ []) h z = rw (eq-eqb b 48 z)
begun_zero (b ∷ c ∷ s) h z = rw (eq-eqb b 48 z, ne_eqb (suc (suc (length s))) 1 (λ e. omega arith))

pub begun_other : (s : Bytes) → (length s ≡ 0 → ⊥) → (get_or s 0 0 ≡ 48 → ⊥) → well_begun s ≡ true
begun_other [] h z = absurd (h refl)
begun_other (b ∷ s) h z = rw (ne_eqb b 48 z)
