-- theta, rho and pi are linear: of two states added they make what they make of each, added. Assumes nothing.
use mathlib.Core.Path.{◌≡◌, refl, sym, ap, ap₂, ◌∙◌, subst}
use mathlib.Core.List.{List, [], ◌∷◌}
use mathlib.Core.Bool.{Bool, true, false, ◌&&◌}
use Prim.Native.Nat.{ℕ, zero, suc, ◌+◌, ◌-◌, ◌*◌, ◌/◌, ◌%◌, ◌^◌, ◌≤◌, ◌<◌}
use native.Mathlib.Nat.{mod-lt, mul-mod_left, add-zero}
use native.Mathlib.Omega.{arith}
use lib.Bits.{bit_or, or_lt, or_shifted, xor_block, xor_comm, xor_lt, xor_mod, xor_shr}
use lib.Dec.{T, ltb, ltb→lt}
use lib.ListN.{get_or}
use lib.Pow.{mod-pow-add, pow_pos, shl-shr, shr_le, shr_lt}
use Rattle.keccak_steps.proofs.Laws.{list_of_at, xor_assoc}
use Rattle.keccak_steps.specs.Lanes.{◌⊕◌, rot, each, lane, state_of}
use Rattle.keccak_steps.specs.Permutation.{parity, theta, offsets, rho, pi}
use Rattle.keccak_complement.specs.Complement.{added}

-- ---- states by their lanes

-- a lane of a tabulated state
pub lane-at : (f : ℕ → ℕ → ℕ) (x y : ℕ) → lane (state_of f) x y ≡ f (x % 5) (y % 5)
lane-at f x y =
    let i : ℕ = x % 5 + 5 * (y % 5) in
    let column : i % 5 ≡ x % 5 = omega arith in
    let row : i / 5 ≡ y % 5 = omega arith in
    list_of_at (λ i. f (i % 5) (i / 5)) 25 i (omega arith) ∙ ap₂ f column row

each_same : (f g : ℕ → ℕ) (n from : ℕ) → ((k : ℕ) → k < from + n → f k ≡ g k) → each f from n ≡ each g from n
each_same f g zero from h = refl
each_same f g (suc n) from h = ap₂ ◌∷◌ (h from (omega arith)) (each_same f g n (suc from) (λ k l. h k (omega arith)))

-- two tabulated states with the same lanes
pub states_same : (f g : ℕ → ℕ → ℕ) → ((x y : ℕ) → x < 5 → y < 5 → f x y ≡ g x y) → state_of f ≡ state_of g
states_same f g h = each_same (λ i. f (i % 5) (i / 5)) (λ i. g (i % 5) (i / 5)) 25 0 (λ k l. h (k % 5) (k / 5) (omega arith) (omega arith))

pub lane-added : (a b : List ℕ) (x y : ℕ) → lane (added a b) x y ≡ lane a x y ⊕ lane b x y
unfolding added
lane-added a b x y =
    let place : x % 5 % 5 + 5 * (y % 5 % 5) ≡ x % 5 + 5 * (y % 5) = omega arith in
    lane-at (λ x y. lane a x y ⊕ lane b x y) x y ∙ ap (λ (i : ℕ). get_or a i 0 ⊕ get_or b i 0) place

-- a step that is linear lane by lane is linear
module _ (f : List ℕ → ℕ → ℕ → ℕ) (a b : List ℕ) where
  pub linear : ((x y : ℕ) → f (added a b) x y ≡ f a x y ⊕ f b x y) → state_of (f (added a b)) ≡ added (state_of (f a)) (state_of (f b))
  unfolding added
  linear h =
      states_same (f (added a b)) (λ x y. lane (state_of (f a)) x y ⊕ lane (state_of (f b)) x y)
      (λ x y hx hy.
      let column : x % 5 ≡ x = omega arith in
      let row : y % 5 ≡ y = omega arith in
      h x y ∙ sym (ap₂ ◌⊕◌ (lane-at (f a) x y ∙ ap₂ (f a) column row) (lane-at (f b) x y ∙ ap₂ (f b) column row)))

-- ---- lanes

interchange : (a b c d : ℕ) → (a ⊕ b) ⊕ (c ⊕ d) ≡ (a ⊕ c) ⊕ (b ⊕ d)
interchange a b c d =
    xor_assoc a b (c ⊕ d)
    ∙ ap (λ (n : ℕ). a ⊕ n) (sym (xor_assoc b c d) ∙ ap (λ (n : ℕ). n ⊕ d) (xor_comm b c) ∙ xor_assoc c b d)
    ∙ sym (xor_assoc a c (b ⊕ d))

-- n is the sum of p and q
record Sum (n p q : ℕ) : Type 0 where
  is : n ≡ p ⊕ q

sums : {n p q n' p' q' : ℕ} → Sum n p q → Sum n' p' q' → Sum (n ⊕ n') (p ⊕ p') (q ⊕ q')
sums {n} {p} {q} {n'} {p'} {q'} s t = record { is = ap₂ ◌⊕◌ s.is t.is ∙ interchange p q p' q' }

module _ (n : ℕ) (h : n ≤ 64) where
  whole : 64 - n + n ≡ 64
  whole = omega arith

  high_part : (x : ℕ) → x < 2 ^ 64 → x / 2 ^ (64 - n) < 2 ^ n
  high_part x l = shr_lt n (64 - n) (subst (λ (k : ℕ). x < 2 ^ k) (let e : 64 ≡ n + (64 - n) = omega arith in e) l)

  -- the low bits, moved up, and the high ones
  rot_parts : (x : ℕ) → x < 2 ^ 64 → rot x n ≡ x % 2 ^ (64 - n) * 2 ^ n + x / 2 ^ (64 - n)
  rot_parts x l =
      let up : x * 2 ^ n % 2 ^ 64 ≡ x % 2 ^ (64 - n) * 2 ^ n =
      ap (λ (k : ℕ). x * 2 ^ n % 2 ^ k) (sym whole) ∙ mod-pow-add (x * 2 ^ n) (64 - n) n
      ∙ ap₂ (λ (p q : ℕ). p % 2 ^ (64 - n) * 2 ^ n + q) (shl-shr x n) (mul-mod_left x (2 ^ n))
      ∙ add-zero (x % 2 ^ (64 - n) * 2 ^ n)
      in
      ap (λ (p : ℕ). bit_or p (x / 2 ^ (64 - n))) up ∙ or_shifted (x % 2 ^ (64 - n)) n (x / 2 ^ (64 - n)) (high_part x l)

  rot-added : (x y : ℕ) → x < 2 ^ 64 → y < 2 ^ 64 → rot (x ⊕ y) n ≡ rot x n ⊕ rot y n
  rot-added x y hx hy =
      rot_parts (x ⊕ y) (xor_lt 64 x y hx hy)
      ∙ ap₂ (λ (p q : ℕ). p * 2 ^ n + q) (xor_mod x y (64 - n)) (xor_shr x y (64 - n))
      ∙ sym (xor_block n (x % 2 ^ (64 - n)) (y % 2 ^ (64 - n)) (x / 2 ^ (64 - n)) (y / 2 ^ (64 - n)) (high_part x hx) (high_part y hy))
      ∙ sym (ap₂ ◌⊕◌ (rot_parts x hx) (rot_parts y hy))

-- lanes of 64 bits
abbrev pub Lanes : List ℕ → Type 0
Lanes a = (x y : ℕ) → lane a x y < 2 ^ 64

-- ---- theta

lane-sum : (a b : List ℕ) (x y : ℕ) → Sum (lane (added a b) x y) (lane a x y) (lane b x y)
lane-sum a b x y = record { is = lane-added a b x y }

parity-sum : (a b : List ℕ) (x : ℕ) → Sum (parity (added a b) x) (parity a x) (parity b x)
parity-sum a b x = let l = lane-sum a b x in sums (sums (sums (sums (l 0) (l 1)) (l 2)) (l 3)) (l 4)

rot-sum : (n : ℕ) → n ≤ 64 → {m p q : ℕ} → Sum m p q → p < 2 ^ 64 → q < 2 ^ 64 → Sum (rot m n) (rot p n) (rot q n)
rot-sum n h {m} {p} {q} s hp hq = record { is = ap (λ (k : ℕ). rot k n) s.is ∙ rot-added n h p q hp hq }

parity-lt : (a : List ℕ) → Lanes a → (x : ℕ) → parity a x < 2 ^ 64
parity-lt a h x =
    xor_lt 64 _ _ (xor_lt 64 _ _ (xor_lt 64 _ _ (xor_lt 64 _ _ (h x 0) (h x 1)) (h x 2)) (h x 3)) (h x 4)

rot-lt : (x n : ℕ) → x < 2 ^ 64 → rot x n < 2 ^ 64
rot-lt x n h = or_lt 64 (x * 2 ^ n % 2 ^ 64) (x / 2 ^ (64 - n)) (mod-lt (x * 2 ^ n) (pow_pos 64)) (let l : x / 2 ^ (64 - n) ≤ x = shr_le x (64 - n) in omega arith)

theta-added : (a b : List ℕ) → Lanes a → Lanes b → theta (added a b) ≡ added (theta a) (theta b)
theta-added a b ha hb =
    linear (λ a x y. lane a x y ⊕ (parity a (x + 4) ⊕ rot (parity a (x + 1)) 1)) a b
    (λ x y.
    (sums (lane-sum a b x y)
    (sums (parity-sum a b (x + 4)) (rot-sum 1 (omega arith) (parity-sum a b (x + 1)) (parity-lt a ha (x + 1)) (parity-lt b hb (x + 1))))).is)

theta_lanes : (a : List ℕ) → Lanes a → Lanes (theta a)
theta_lanes a h x y =
    subst (λ (n : ℕ). n < 2 ^ 64) (sym (lane-at (λ x y. lane a x y ⊕ (parity a (x + 4) ⊕ rot (parity a (x + 1)) 1)) x y))
    (xor_lt 64 _ _ (h (x % 5) (y % 5)) (xor_lt 64 _ _ (parity-lt a h (x % 5 + 4)) (rot-lt (parity a (x % 5 + 1)) 1 (parity-lt a h (x % 5 + 1)))))

-- ---- rho

-- the elements of a list are below a bound, by one computed test
abbrev pub all_below : ℕ → List ℕ → Bool
all_below m [] = ltb 0 m
all_below m (x ∷ l) = ltb x m && all_below m l

both : (p q : Bool) → T (p && q) → T p × T q
both true true h = (tt, tt)
both true false h = absurd h
both false q h = absurd h

pub below : (m : ℕ) (l : List ℕ) → T (all_below m l) → (i : ℕ) → get_or l i 0 < m
below m [] t zero = ltb→lt 0 m t
below m [] t (suc i) = ltb→lt 0 m t
below m (x ∷ l) t zero = ltb→lt x m (both (ltb x m) (all_below m l) t).0
below m (x ∷ l) t (suc i) = below m l (both (ltb x m) (all_below m l) t).1 i

rho-added : (a b : List ℕ) → Lanes a → Lanes b → rho (added a b) ≡ added (rho a) (rho b)
rho-added a b ha hb =
    linear (λ a x y. rot (lane a x y) (lane offsets x y)) a b
    (λ x y.
    let small : lane offsets x y < 64 = below 64 offsets tt (x % 5 + 5 * (y % 5)) in
    (rot-sum (lane offsets x y) (omega arith) (lane-sum a b x y) (ha x y) (hb x y)).is)

-- ---- pi

pi-added : (a b : List ℕ) → pi (added a b) ≡ added (pi a) (pi b)
pi-added a b = linear (λ a x y. lane a (x + 3 * y) x) a b (λ x y. lane-added a b (x + 3 * y) x)

-- ---- the three

pub moved-added : (a b : List ℕ) → Lanes a → Lanes b → pi (rho (theta (added a b))) ≡ added (pi (rho (theta a))) (pi (rho (theta b)))
moved-added a b ha hb =
    ap (λ (s : List ℕ). pi (rho s)) (theta-added a b ha hb)
    ∙ ap pi (rho-added (theta a) (theta b) (theta_lanes a ha) (theta_lanes b hb))
    ∙ pi-added (rho (theta a)) (rho (theta b))
