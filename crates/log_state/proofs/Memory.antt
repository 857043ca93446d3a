-- The table as the first bytes of the memory. Assumes nothing.
use Prim.Native.Nat.{ℕ, ◌+◌, ◌-◌, ◌*◌, ◌≤◌}
use mathlib.Core.Path.{◌≡◌, refl, sym, ◌∙◌}
use mathlib.Core.List.{◌++◌}
use native.Mathlib.Omega.{arith}
use borrow.Author.Tests.{eq-eqb, ne_eqb, eqb-true, eqb-false}
use lib.Dec.{eqb}
use lib.ListN.{length, take, drop, take-append-drop}
use lib.Seq.{length-take-le}
use Rattle.octets.specs.Octets.{Bytes, part, store}
use Rattle.octets.proofs.Laws.{store-eq, part-store}
use Rattle.lists.proofs.Laws.{by_test}
use Rattle.log_state.specs.declared.Replay.{Replay}
use Rattle.log_state.specs.State.{size_of}

-- ---- sizes

pub size_none : (count : ℕ) → count ≡ 0 → 0 ≡ size_of count
unfolding size_of
size_none count h = rw (eq-eqb count 0 h)

pub size_some : (count : ℕ) → (count ≡ 0 → ⊥) → 512 + count * 2862 ≡ size_of count
unfolding size_of
size_some count h = rw (ne_eqb count 0 h)

pub size_most : (count : ℕ) → count ≤ 16 → size_of count ≤ 46304
size_most count h =
    by_test (eqb count 0)
    (λ t. omega (arith, size_none count (eqb-true count 0 t)))
    (λ t. omega (arith, size_some count (eqb-false count 0 t)))

pub size_fits : (replay : Replay) (memory : Bytes) → 46304 ≤ length memory → replay.count ≤ 16 → size_of replay.count ≤ length memory
size_fits replay memory big few = omega (arith, size_most replay.count few)

-- ---- bytes at the front

module _ (m : Bytes) (n : ℕ) (fits : n ≤ length m) where
  -- a part of n bytes comes back as v
  pub front-stored : (v : Bytes) → length v ≡ n → take 0 m ++ (v ++ drop (n - 0) (drop 0 m)) ≡ store m 0 v
  front-stored v e =
      let k : n - 0 ≡ 0 + length v = omega arith in
      rw k (sym (store-eq v m 0 (omega arith)))

  pub front-is : (v : Bytes) → length v ≡ n → take n (store m 0 v) ≡ v
  unfolding part
  front-is v e = rw (sym e) (part-store v m 0 (omega arith))

  -- nothing changes where it comes back as it was
  pub front_same : store m 0 (take n m) ≡ m
  front_same =
      let k : 0 + length (take n m) ≡ n = omega (arith, length-take-le n m fits) in
      store-eq (take n m) m 0 (omega (arith, length-take-le n m fits)) ∙ rw k (take-append-drop n m)

-- the part that is lent is the first bytes
pub front_part : (m : Bytes) (n : ℕ) → take (n - 0) (drop 0 m) ≡ take n m
front_part m n = let k : n - 0 ≡ n = omega arith in rw k refl
