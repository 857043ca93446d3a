-- An array filled with the order from both ends, from the highest number down. Assumes nothing.
use Prim.Native.Nat.{ℕ, zero, suc, ◌+◌, ◌-◌, ◌≤◌, ◌<◌}
use mathlib.Core.Path.{◌≡◌, refl, sym, ap, ◌∙◌}
use mathlib.Core.Bool.{true, false}
use mathlib.Core.List.{List, [], ◌∷◌, ◌++◌, append_assoc}
use native.Mathlib.Omega.{arith}
use lib.ListN.{length, take, set, replicate, length-append, length-replicate, replicate-append-replicate}
use lib.Seq.{set_at, take_at, append_snoc}
use Rattle.closest_order.specs.Taking.{is_set, rising, falling, taking_order}
use Rattle.closest_order.proofs.Order.{set_ones, clear_ones, order_is, more-set, more-clear}
use Rattle.closest_order.proofs.Kept.{length-order}

-- ---- a store at either end of the zeros between l and m

abbrev zeros : ℕ → List ℕ
zeros n = replicate n 0

zeros_last : (n : ℕ) → zeros (suc n) ≡ zeros n ++ (0 ∷ [])
zeros_last zero = refl
zeros_last (suc n) = ap (λ l. 0 ∷ l) (zeros_last n)

module _ (l m : List ℕ) (n v : ℕ) where
  set_first : set (l ++ (zeros (suc n) ++ m)) (length l) v ≡ l ++ (v ∷ []) ++ (zeros n ++ m)
  set_first = set_at l 0 (zeros n ++ m) v (length l) refl ∙ sym (append_snoc l v (zeros n ++ m))

  set_last : set (l ++ (zeros (suc n) ++ m)) (length l + n) v ≡ l ++ (zeros n ++ v ∷ m)
  set_last =
      let split : l ++ (zeros (suc n) ++ m) ≡ (l ++ zeros n) ++ 0 ∷ m =
      ap (λ r. l ++ (r ++ m)) (zeros_last n) ∙ ap (λ r. l ++ r) (append_snoc (zeros n) 0 m) ∙ sym (append_assoc l (zeros n) (0 ∷ m)) in
      let size : length (l ++ zeros n) ≡ length l + n = length-append l (zeros n) ∙ ap (λ k. length l + k) (length-replicate {A = ℕ} n 0) in
      ap (λ r. set r (length l + n) v) split ∙ set_at (l ++ zeros n) 0 m v (length l + n) size ∙ append_assoc l (zeros n) (v ∷ m)

-- ---- once the numbers from i on are in: the set ones before `front`, the clear ones from `back` on

pub record Filled (x count : ℕ) (order : List ℕ) (front back i : ℕ) : Type 0 where
  pub ends : front ≤ back
  pub last : back ≤ count
  pub below : i ≤ 256
  pub left : 256 + back ≡ i + count + front
  pub size : length (set_ones x i (256 - i)) ≡ front
  pub form : order ≡ set_ones x i (256 - i) ++ (zeros (back - front) ++ (clear_ones x i (256 - i) ++ zeros (256 - count)))

module _ (x count : ℕ) (few : count ≤ 256) where
  pub filled_none : Filled x count (zeros 256) 0 count 256
  unfolding rising falling
  filled_none =
      let none : count - 0 ≡ count = omega arith in
      let all : count + (256 - count) ≡ 256 = omega arith in
      record {
        ends = omega arith;
        last = omega arith;
        below = omega arith;
        left = omega arith;
        size = refl;
        form = rw none (sym (replicate-append-replicate {A = ℕ} count (256 - count) 0 ∙ ap zeros all));
      }

  module _ {order : List ℕ} {front back i : ℕ} (f : Filled x count order front back i) where
    abbrev S : List ℕ
    S = set_ones x i (256 - i)

    abbrev C : List ℕ
    C = clear_ones x i (256 - i)

    abbrev rest : List ℕ
    rest = C ++ zeros (256 - count)

    pub filled-all : back ≤ front → take count order ≡ taking_order x count
    filled-all done =
        let at : i ≡ 256 - count = omega (arith, f.ends, f.left, f.last) in
        let size : 256 - i ≡ count = omega arith in
        let none : back - front ≡ 0 = omega arith in
        let form : order ≡ (S ++ C) ++ zeros (256 - count) =
        f.form ∙ ap (λ n. S ++ (zeros n ++ rest)) none ∙ sym (append_assoc S C (zeros (256 - count))) in
        let whole : S ++ C ≡ taking_order x count = ap (λ n. set_ones x i n ++ clear_ones x i n) size ∙ ap (λ j. set_ones x j count ++ clear_ones x j count) at ∙ sym (order_is x count) in
        ap (take count) form ∙ take_at (S ++ C) (zeros (256 - count)) count (ap length whole ∙ length-order x count few) ∙ whole

    module _ (more : front < back) where
      next : i ≡ suc (i - 1)
      next = omega (arith, f.left)

      one_more : 256 - (i - 1) ≡ suc (256 - i)
      one_more = omega (arith, f.below, next)

      -- a store where zeros are left
      stored : (k v : ℕ) → set order k v ≡ set (S ++ (zeros (suc (back - front - 1)) ++ rest)) k v
      stored k v =
          let gap : back - front ≡ suc (back - front - 1) = omega arith in
          ap (λ l. set l k v) (f.form ∙ ap (λ n. S ++ (zeros n ++ rest)) gap)

      pub filled-set : is_set (i - 1) x ≡ true → Filled x count (set order front (i - 1)) (front + 1) back (i - 1)
      filled-set e =
          let m = more-set x (i - 1) (256 - i) e in
          let set_part : set_ones x (i - 1) (256 - (i - 1)) ≡ S ++ ((i - 1) ∷ []) =
          ap (set_ones x (i - 1)) one_more ∙ m.0 ∙ ap (λ j. set_ones x j (256 - i) ++ ((i - 1) ∷ [])) (sym next) in
          let clear_part : clear_ones x (i - 1) (256 - (i - 1)) ≡ C = ap (clear_ones x (i - 1)) one_more ∙ m.1 ∙ ap (λ j. clear_ones x j (256 - i)) (sym next) in
          let left : back - (front + 1) ≡ back - front - 1 = omega arith in
          record {
            ends = omega arith;
            last = f.last;
            below = omega (arith, f.below);
            left = omega (arith, f.left, next);
            size = ap length set_part ∙ length-append S ((i - 1) ∷ []) ∙ ap (λ n. n + 1) f.size;
            form = rw (set_part, clear_part, left)
                (stored front (i - 1)
                ∙ ap (λ k. set (S ++ (zeros (suc (back - front - 1)) ++ rest)) k (i - 1)) (sym f.size)
                ∙ set_first S rest (back - front - 1) (i - 1));
          }

      pub filled-clear : is_set (i - 1) x ≡ false → Filled x count (set order (back - 1) (i - 1)) front (back - 1) (i - 1)
      filled-clear e =
          let m = more-clear x (i - 1) (256 - i) e in
          let set_part : set_ones x (i - 1) (256 - (i - 1)) ≡ S = ap (set_ones x (i - 1)) one_more ∙ m.0 ∙ ap (λ j. set_ones x j (256 - i)) (sym next) in
          let clear_part : clear_ones x (i - 1) (256 - (i - 1)) ≡ (i - 1) ∷ C =
          ap (clear_ones x (i - 1)) one_more ∙ m.1 ∙ ap (λ j. (i - 1) ∷ clear_ones x j (256 - i)) (sym next) in
          let left : back - 1 - front ≡ back - front - 1 = omega arith in
          let at : back - 1 ≡ length S + (back - front - 1) = omega (arith, f.size) in
          record {
            ends = omega arith;
            last = omega (arith, f.last);
            below = omega (arith, f.below);
            left = omega (arith, f.left, next);
            size = ap length set_part ∙ f.size;
            form = rw (set_part, clear_part, left)
                (stored (back - 1) (i - 1)
                ∙ ap (λ k. set (S ++ (zeros (suc (back - front - 1)) ++ rest)) k (i - 1)) at
                ∙ set_last S rest (back - front - 1) (i - 1));
          }
