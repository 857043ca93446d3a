-- A round of a state with inverted lanes. Assumes nothing.
use mathlib.Core.Path.{◌≡◌, refl, sym, ap, ◌∙◌}
use mathlib.Core.List.{List}
use Prim.Native.Nat.{ℕ, ◌+◌, ◌*◌, ◌/◌, ◌%◌, ◌^◌}
use native.Mathlib.Omega.{arith}
use lib.Bits.{xor_self, xor_zero_r}
use lib.ListN.{length, get_or, set}
use lib.Seq.{ext_get_or}
use Rattle.keccak_steps.proofs.Laws.{list_of_at, xor_assoc}
use Rattle.keccak_steps.specs.Lanes.{◌⊕◌, and_not, lane, state_of}
use Rattle.keccak_steps.specs.Permutation.{theta, rho, pi, chi, iota, round}
use Rattle.keccak_complement.specs.Complement.{added, mask, complement, complement_before_chi}
use Rattle.keccak_complement.proofs.Linear.{Lanes, lane-added, states_same, below, moved-added}

-- a state is its lanes
state_of_lanes : (a : List ℕ) → length a ≡ 25 → state_of (lane a) ≡ a
state_of_lanes a h =
    ext_get_or 0 (state_of (lane a)) a (sym h)
    (λ i l.
    let place : i % 5 % 5 + 5 * (i / 5 % 5) ≡ i = omega arith in
    list_of_at (λ i. lane a (i % 5) (i / 5)) 25 i l ∙ ap (λ (k : ℕ). get_or a k 0) place)

-- inverted twice, a lane is as it was
pub complement_twice : (a : List ℕ) → length a ≡ 25 → complement (complement a) ≡ a
unfolding complement added
complement_twice a h =
    states_same (λ x y. lane (added a mask) x y ⊕ lane mask x y) (lane a)
    (λ x y hx hy.
    ap (λ (n : ℕ). n ⊕ lane mask x y) (lane-added a mask x y)
    ∙ xor_assoc (lane a x y) (lane mask x y) (lane mask x y)
    ∙ ap (λ (n : ℕ). lane a x y ⊕ n) (xor_self (lane mask x y))
    ∙ xor_zero_r (lane a x y))
    ∙ state_of_lanes a h

mask_lanes : Lanes mask
unfolding mask
mask_lanes x y = below (2 ^ 64) mask tt (x % 5 + 5 * (y % 5))

-- theta, rho and pi bring the mask to where chi expects it
moved : (a : List ℕ) → Lanes a → pi (rho (theta (complement a))) ≡ complement_before_chi (pi (rho (theta a)))
unfolding complement complement_before_chi
moved a h = moved-added a mask h mask_lanes

-- lane (0, 0) is not inverted
iota-complement : (c : ℕ) (f : ℕ → ℕ → ℕ) → iota c (complement (state_of f)) ≡ complement (iota c (state_of f))
unfolding complement added mask
iota-complement c f =
    ap (λ (n : ℕ). set (complement (state_of f)) 0 n) (ap (λ (n : ℕ). n ⊕ c) (xor_zero_r (f 0 0)) ∙ sym (xor_zero_r (f 0 0 ⊕ c)))

iota-chi : (c : ℕ) (b : List ℕ) → iota c (complement (chi b)) ≡ complement (iota c (chi b))
iota-chi c b = iota-complement c (λ x y. lane b x y ⊕ and_not (lane b (x + 1) y) (lane b (x + 2) y))

-- a round with the new chi is a round between two complements
pub round-complement : (c : ℕ) (a : List ℕ) → Lanes a
    → iota c (complement (chi (complement_before_chi (pi (rho (theta a)))))) ≡ complement (round c (complement a))
unfolding round
round-complement c a h =
    ap (λ (b : List ℕ). iota c (complement (chi b))) (sym (moved a h)) ∙ iota-chi c (pi (rho (theta (complement a))))

iota-length : (c : ℕ) (f : ℕ → ℕ → ℕ) → length (iota c (state_of f)) ≡ 25
iota-length c f = refl

-- what a round makes, complemented twice
pub round_twice : (c : ℕ) (a : List ℕ) → complement (complement (round c a)) ≡ round c a
unfolding round
round_twice c a =
    let b = pi (rho (theta a)) in
    complement_twice (iota c (chi b)) (iota-length c (λ x y. lane b x y ⊕ and_not (lane b (x + 1) y) (lane b (x + 2) y)))
