-- Each distance but 0 falls in one bucket, the one below its number of binary digits. Assumes nothing.
use mathlib.Core.Path.{◌≡◌, refl, sym, ap, ◌∙◌}
use mathlib.Core.Bool.{true, false}
use Prim.Native.Nat.{ℕ, ◌+◌, ◌-◌, ◌*◌, ◌^◌, ◌≤◌, ◌<◌}
use native.Mathlib.Nat.{pow-suc, pow-le-pow_right, zero-lt-suc}
use native.Mathlib.Numerals.{add-one}
use native.Mathlib.Decide.{dec_lt}
use native.Mathlib.Omega.{arith}
use borrow.Author.Tests.{le-leb, lt-leb, lt-ltb, le-ltb, eq-eqb, ne_eqb, eqb-true, eqb-false}
use lib.Count.{count_leading_zeros, leading_length}
use lib.Pow.{pow-add}
use lib.Dec.{eqb}
use lib.ListN.{length}
use Rattle.octets.specs.Octets.{Bytes, IsBytes}
use Rattle.lists.proofs.Laws.{by_test}
use Rattle.keccak.specs.Sponge.{keccak256}
use Rattle.keccak.proofs.Laws.{keccak256-length, keccak256_bytes}
use Rattle.distance.specs.Distance.{distance, in_bucket, bit_length, home}
use Rattle.distance.proofs.Laws.{bit_length-most, distance-less}

above : (i m : ℕ) → i ≤ m → 2 ^ i ≤ 2 ^ m
above i m h = pow-le-pow_right (zero-lt-suc 1) h

-- the bucket of a distance has the number that is one below the distance's length
pub in_bucket_bits : (i d : ℕ) → d < 2 ^ 256 → in_bucket i d ≡ eqb (bit_length d) (i + 1)
unfolding in_bucket bit_length
in_bucket_bits i d h =
    let l = leading_length 256 d h in
    let m : ℕ = l.0 in
    let is : 256 - count_leading_zeros 256 d ≡ m = omega (arith, l.1) in
    rw is (elim (dec_lt i m) [
      | no g ↦
          let le : 2 ^ m ≤ 2 ^ i = above m i (omega arith) in
          rw (lt-leb (2 ^ i) d (omega (arith, l.2)), ne_eqb m (i + 1) (omega arith)) refl
      | yes g ↦ elim (dec_lt (i + 1) m) [
        | yes k ↦
            let le : 2 ^ (i + 2) ≤ 2 ^ m = above (i + 2) m (omega arith) in
            let e₁ : 2 ^ (i + 1) ≡ 2 ^ i * 2 = rw add-one (pow-suc 2 i) in
            let e₂ : 2 ^ (i + 2) ≡ 2 ^ i * 4 = pow-add 2 i 2 in
            rw (le-leb (2 ^ i) d (omega (arith, l.3)), le-ltb d (2 ^ (i + 1)) (omega (arith, l.3)), ne_eqb m (i + 1) (omega arith)) refl
        | no k ↦
            let e : m ≡ i + 1 = omega arith in
            let e₁ : 2 ^ (i + 1) ≡ 2 ^ i * 2 = rw add-one (pow-suc 2 i) in
            let most : 2 ^ (i + 1) ≤ 2 * d + 1 = rw e at l.3 in
            let less : d < 2 ^ (i + 1) = rw e at l.2 in
            rw (le-leb (2 ^ i) d (omega arith), lt-ltb d (2 ^ (i + 1)) less, eq-eqb m (i + 1) e) refl
      ]
    ])

-- no distance falls in two buckets
pub bucket_unique : (i j d : ℕ) → d < 2 ^ 256 → in_bucket i d ≡ true → in_bucket j d ≡ true → i ≡ j
bucket_unique i j d h p q =
    let e : bit_length d ≡ i + 1 = eqb-true _ _ (sym (in_bucket_bits i d h) ∙ p) in
    let f : bit_length d ≡ j + 1 = eqb-true _ _ (sym (in_bucket_bits j d h) ∙ q) in
    omega arith

-- there are 256 buckets
pub bucket_below : (i d : ℕ) → d < 2 ^ 256 → in_bucket i d ≡ true → i < 256
bucket_below i d h p =
    let e : bit_length d ≡ i + 1 = eqb-true _ _ (sym (in_bucket_bits i d h) ∙ p) in
    omega (arith, bit_length-most d)

-- ---- the bucket of a key

pub home_bits : (own key : Bytes) (i : ℕ) → length own ≡ 32 → IsBytes own
    → home own i key ≡ eqb (bit_length (distance own (keccak256 key))) (i + 1)
unfolding home
home_bits own key i l b =
    in_bucket_bits i (distance own (keccak256 key))
    (distance-less own (keccak256 key) l (keccak256-length key) b (keccak256_bytes key))

-- the two ways out of `falls_in`, with `bits` the length of the distance
pub nowhere : (d i : ℕ) {bits : ℕ} → d < 2 ^ 256 → bits ≡ bit_length d → bits ≡ 0 → false ≡ in_bucket i d
nowhere d i h e z = sym (in_bucket_bits i d h ∙ ne_eqb (bit_length d) (i + 1) (omega arith))

pub somewhere : (d i : ℕ) {bits : ℕ} → d < 2 ^ 256 → bits ≡ bit_length d → (bits ≡ 0 → ⊥) → eqb (bits - 1) i ≡ in_bucket i d
somewhere d i {bits} h e z =
    let same : eqb (bits - 1) i ≡ eqb bits (i + 1) =
    by_test (eqb bits (i + 1))
    (λ t. let k : bits ≡ i + 1 = eqb-true _ _ t in eq-eqb (bits - 1) i (omega arith) ∙ sym t)
    (λ t. ne_eqb (bits - 1) i (λ k. eqb-false bits (i + 1) t (omega arith)) ∙ sym t) in
    same ∙ ap (λ m. eqb m (i + 1)) e ∙ sym (in_bucket_bits i d h)
