-- Taking a block as its 17 lanes of eight bytes leaves the state that taking its 136 bytes one by one leaves. Assumes nothing.
use mathlib.Core.Path.{◌≡◌, refl, sym, ap, ◌∙◌, subst}
use mathlib.Core.List.{List, [], ◌∷◌}
use Prim.Native.Nat.{ℕ, zero, suc, ◌+◌, ◌*◌, ◌/◌, ◌%◌, ◌^◌, ◌<◌, ◌≤◌, zero-le}
use native.Mathlib.Nat.{le_refl, add-zero, add_comm}
use native.Mathlib.Decide.{ℕ_discrete}
use native.Mathlib.Omega.{arith}
use lib.Bits.{xor_zero_r, xor_comm, xor_shifted}
use lib.ListN.{length, get_or, set, take, length-set, length-take, get_or-eq_default}
use lib.Seq.{ext_get_or, get_or-take, get_or-set_same, get_or-set_other, take-nil, take_all}
use Rattle.keccak_steps.specs.Lanes.{◌⊕◌, list_of}
use Rattle.keccak_steps.proofs.Laws.{list_of_at, xor_assoc}
use Rattle.keccak_blocks.specs.Blocks.{lane_at, xor_block}
use Rattle.keccak_bytewise.specs.Bytewise.{xor_byte, xor_bytes, OneByOne}

-- ---- a lane of eight bytes x 0 .. x 7, and the lane y that has one byte more, at r
abbrev places : (ℕ → ℕ) → ℕ
places x = x 0 + x 1 * 2 ^ 8 + x 2 * 2 ^ 16 + x 3 * 2 ^ 24 + x 4 * 2 ^ 32 + x 5 * 2 ^ 40 + x 6 * 2 ^ 48 + x 7 * 2 ^ 56

module _ (x y : ℕ → ℕ) (bytes : (t : ℕ) → x t < 256) where
  one_more : (r : ℕ) → r < 8 → ((t : ℕ) → (t ≡ r → ⊥) → y t ≡ x t) → ((t : ℕ) → r ≤ t → x t ≡ 0)
      → (places y ≡ places x + y r * 2 ^ (8 * r)) × (places x < 2 ^ (8 * r))
  one_more zero h o z =
      omega (arith, o 1 (omega arith), o 2 (omega arith), o 3 (omega arith), o 4 (omega arith), o 5 (omega arith), o 6 (omega arith), o 7 (omega arith), z 0 (omega arith), z 1 (omega arith), z 2 (omega arith), z 3 (omega arith), z 4 (omega arith), z 5 (omega arith), z 6 (omega arith), z 7 (omega arith))
  one_more (suc zero) h o z =
      omega (arith, o 0 (omega arith), o 2 (omega arith), o 3 (omega arith), o 4 (omega arith), o 5 (omega arith), o 6 (omega arith), o 7 (omega arith), z 1 (omega arith), z 2 (omega arith), z 3 (omega arith), z 4 (omega arith), z 5 (omega arith), z 6 (omega arith), z 7 (omega arith), bytes 0)
  one_more (suc (suc zero)) h o z =
      omega (arith, o 0 (omega arith), o 1 (omega arith), o 3 (omega arith), o 4 (omega arith), o 5 (omega arith), o 6 (omega arith), o 7 (omega arith), z 2 (omega arith), z 3 (omega arith), z 4 (omega arith), z 5 (omega arith), z 6 (omega arith), z 7 (omega arith), bytes 0, bytes 1)
  one_more (suc (suc (suc zero))) h o z =
      omega (arith, o 0 (omega arith), o 1 (omega arith), o 2 (omega arith), o 4 (omega arith), o 5 (omega arith), o 6 (omega arith), o 7 (omega arith), z 3 (omega arith), z 4 (omega arith), z 5 (omega arith), z 6 (omega arith), z 7 (omega arith), bytes 0, bytes 1, bytes 2)
  one_more (suc (suc (suc (suc zero)))) h o z =
      omega (arith, o 0 (omega arith), o 1 (omega arith), o 2 (omega arith), o 3 (omega arith), o 5 (omega arith), o 6 (omega arith), o 7 (omega arith), z 4 (omega arith), z 5 (omega arith), z 6 (omega arith), z 7 (omega arith), bytes 0, bytes 1, bytes 2, bytes 3)
  one_more (suc (suc (suc (suc (suc zero))))) h o z =
      omega (arith, o 0 (omega arith), o 1 (omega arith), o 2 (omega arith), o 3 (omega arith), o 4 (omega arith), o 6 (omega arith), o 7 (omega arith), z 5 (omega arith), z 6 (omega arith), z 7 (omega arith), bytes 0, bytes 1, bytes 2, bytes 3, bytes 4)
  one_more (suc (suc (suc (suc (suc (suc zero)))))) h o z =
      omega (arith, o 0 (omega arith), o 1 (omega arith), o 2 (omega arith), o 3 (omega arith), o 4 (omega arith), o 5 (omega arith), o 7 (omega arith), z 6 (omega arith), z 7 (omega arith), bytes 0, bytes 1, bytes 2, bytes 3, bytes 4, bytes 5)
  one_more (suc (suc (suc (suc (suc (suc (suc zero))))))) h o z =
      omega (arith, o 0 (omega arith), o 1 (omega arith), o 2 (omega arith), o 3 (omega arith), o 4 (omega arith), o 5 (omega arith), o 6 (omega arith), z 7 (omega arith), bytes 0, bytes 1, bytes 2, bytes 3, bytes 4, bytes 5, bytes 6)
  one_more (suc (suc (suc (suc (suc (suc (suc (suc r)))))))) h o z = absurd (omega arith)

lane_places : (b : List ℕ) (at : ℕ) → lane_at b at ≡ places (λ t. get_or b (at + t) 0)
unfolding lane_at
lane_places b at =
    ap (λ (i : ℕ).
    get_or b i 0 + get_or b (at + 1) 0 * 2 ^ 8 + get_or b (at + 2) 0 * 2 ^ 16 + get_or b (at + 3) 0 * 2 ^ 24 + get_or b (at + 4) 0 * 2 ^ 32
    + get_or b (at + 5) 0 * 2 ^ 40 + get_or b (at + 6) 0 * 2 ^ 48 + get_or b (at + 7) 0 * 2 ^ 56)
    (sym (add-zero at))

-- ---- the bytes of a block's first n bytes
take_other : (b : List ℕ) (n i : ℕ) → (i ≡ n → ⊥) → get_or (take (suc n) b) i 0 ≡ get_or (take n b) i 0
take_other [] n i h = ap (λ (l : List ℕ). get_or l i 0) (sym (take-nil n))
take_other (x ∷ b) zero zero h = absurd (h refl)
take_other (x ∷ b) zero (suc i) h = refl
take_other (x ∷ b) (suc n) zero h = refl
take_other (x ∷ b) (suc n) (suc i) h = take_other b n i (λ e. h (ap suc e))

take_past : (b : List ℕ) (n i : ℕ) → n ≤ i → get_or (take n b) i 0 ≡ 0
take_past b n i h = get_or-eq_default (take n b) 0 (omega (arith, length-take n b))

take-le : (b : List ℕ) (n i : ℕ) → get_or (take n b) i 0 ≤ get_or b i 0
take-le [] n i = subst (λ (l : List ℕ). get_or l i 0 ≤ 0) (sym (take-nil n)) zero-le
take-le (x ∷ b) zero i = zero-le
take-le (x ∷ b) (suc n) zero = le_refl x
take-le (x ∷ b) (suc n) (suc i) = take-le b n i

module _ (a b : List ℕ) (lanes : length a ≡ 25) (bytes : (i : ℕ) → get_or b i 0 < 256) where
  -- lane j as the first n bytes leave it
  abbrev after : ℕ → ℕ → ℕ
  after n j = get_or a j 0 ⊕ lane_at (take n b) (8 * j)

  other-lane : (n j : ℕ) → (j ≡ n / 8 → ⊥) → lane_at (take (suc n) b) (8 * j) ≡ lane_at (take n b) (8 * j)
  other-lane n j ne =
      let e : (t : ℕ) → t < 8 → get_or (take (suc n) b) (8 * j + t) 0 ≡ get_or (take n b) (8 * j + t) 0 =
      λ t h. take_other b n (8 * j + t) (λ p. ne (omega arith)) in
      lane_places (take (suc n) b) (8 * j)
      ∙ (λ i.
      e 0 (omega arith) i + e 1 (omega arith) i * 2 ^ 8 + e 2 (omega arith) i * 2 ^ 16 + e 3 (omega arith) i * 2 ^ 24
      + e 4 (omega arith) i * 2 ^ 32 + e 5 (omega arith) i * 2 ^ 40 + e 6 (omega arith) i * 2 ^ 48 + e 7 (omega arith) i * 2 ^ 56)
      ∙ sym (lane_places (take n b) (8 * j))

  this-lane : (n : ℕ) → after n (n / 8) ⊕ get_or b n 0 * 2 ^ (8 * (n % 8)) ≡ after (suc n) (n / 8)
  this-lane n =
      let q : ℕ = n / 8 in
      let r : ℕ = n % 8 in
      let x : ℕ → ℕ = λ t. get_or (take n b) (8 * q + t) 0 in
      let y : ℕ → ℕ = λ t. get_or (take (suc n) b) (8 * q + t) 0 in
      let small : (t : ℕ) → x t < 256 = λ t. omega (arith, take-le b n (8 * q + t), bytes (8 * q + t)) in
      let o : (t : ℕ) → (t ≡ r → ⊥) → y t ≡ x t = λ t ne. take_other b n (8 * q + t) (λ p. ne (omega arith)) in
      let z : (t : ℕ) → r ≤ t → x t ≡ 0 = λ t h. take_past b n (8 * q + t) (omega arith) in
      let more = one_more x y small r (omega arith) o z in
      let place : 8 * q + r ≡ n = omega arith in
      let byte : y r ≡ get_or b n 0 =
      ap (λ (i : ℕ). get_or (take (suc n) b) i 0) place ∙ get_or-take (suc n) b n 0 (le_refl (suc n)) in
      xor_assoc (get_or a q 0) (lane_at (take n b) (8 * q)) (get_or b n 0 * 2 ^ (8 * r))
      ∙ ap (λ (l : ℕ). get_or a q 0 ⊕ l)
      (ap (λ (l : ℕ). l ⊕ get_or b n 0 * 2 ^ (8 * r)) (lane_places (take n b) (8 * q))
      ∙ xor_comm (places x) (get_or b n 0 * 2 ^ (8 * r))
      ∙ xor_shifted (get_or b n 0) (8 * r) (places x) more.1
      ∙ add_comm (get_or b n 0 * 2 ^ (8 * r)) (places x)
      ∙ ap (λ (v : ℕ). places x + v * 2 ^ (8 * r)) (sym byte)
      ∙ sym more.0
      ∙ sym (lane_places (take (suc n) b) (8 * q)))

  module _ (n : ℕ) (h : n < 136) where
    -- the state after n bytes, and with the next byte
    abbrev s : List ℕ
    s = list_of 25 (after n)

    abbrev v : ℕ
    v = get_or s (n / 8) 0 ⊕ get_or b n 0 * 2 ^ (8 * (n % 8))

    at-lane : (j : ℕ) → j < 25 → Dec (j ≡ n / 8) → get_or (set s (n / 8) v) j 0 ≡ after (suc n) j
    at-lane j hj (yes e) =
        ap (λ (i : ℕ). get_or (set s (n / 8) v) i 0) e
        ∙ get_or-set_same s (n / 8) v 0 (omega arith)
        ∙ ap (λ (l : ℕ). l ⊕ get_or b n 0 * 2 ^ (8 * (n % 8))) (list_of_at (after n) 25 (n / 8) (omega arith))
        ∙ this-lane n
        ∙ ap (after (suc n)) (sym e)
    at-lane j hj (no ne) =
        get_or-set_other s (n / 8) j v 0 ne
        ∙ list_of_at (after n) 25 j hj
        ∙ ap (λ (l : ℕ). get_or a j 0 ⊕ l) (sym (other-lane n j ne))

    step : xor_byte s n (get_or b n 0) ≡ list_of 25 (after (suc n))
    unfolding xor_byte
    step =
        ext_get_or 0 (set s (n / 8) v) (list_of 25 (after (suc n))) (length-set s (n / 8) v)
        (λ j hj.
        let within : j < 25 = rw length-set at hj in
        at-lane j within (ℕ_discrete j (n / 8)) ∙ sym (list_of_at (after (suc n)) 25 j within))

  empty-lane : (at : ℕ) → lane_at [] at ≡ 0
  unfolding lane_at
  empty-lane at = refl

  all : (n : ℕ) → n ≤ 136 → xor_bytes a b n ≡ list_of 25 (after n)
  unfolding xor_bytes
  all zero h =
      ext_get_or 0 a (list_of 25 (after 0)) lanes
      (λ j hj.
      sym (list_of_at (after 0) 25 j (omega arith) ∙ ap (λ (l : ℕ). get_or a j 0 ⊕ l) (empty-lane (8 * j)) ∙ xor_zero_r (get_or a j 0)))
  all (suc n) h = ap (λ (l : List ℕ). xor_byte l n (get_or b n 0)) (all n (omega arith)) ∙ step n (omega arith)

  by-lanes : length b ≡ 136 → xor_bytes a b 136 ≡ xor_block a b
  unfolding xor_block
  by-lanes h = all 136 (omega arith) ∙ ap (λ (l : List ℕ). list_of 25 (λ i. get_or a i 0 ⊕ lane_at l (8 * i))) (take_all 136 b (omega arith))

pub one_by_one : OneByOne
one_by_one a b lanes size bytes = by-lanes a b lanes bytes size
