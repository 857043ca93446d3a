-- The packets of a reply hold all its nodes, one after the other.
use Prim.Native.Nat.{ℕ, zero, suc, ◌+◌, ◌-◌, ◌*◌, ◌/◌, ◌≤◌, ◌<◌, min}
use mathlib.Core.Path.{◌≡◌, refl, sym, ap, ap₂, ◌∙◌}
use mathlib.Core.Bool.{true, false, cond}
use native.Mathlib.Omega.{arith}
use lib.Dec.{eqb}
use Rattle.lists.proofs.Laws.{by_test}
use borrow.Author.Tests.{eq-eqb, ne_eqb, eqb-true}
use Rattle.packet_reply.specs.declared.Part.{Part}
use Rattle.packet_reply.specs.Reply.{reply_count, reply_part, Replies}

pub count_none : {n : ℕ} → n ≡ 0 → 1 ≡ reply_count n
unfolding reply_count
count_none {n} e = sym (simp (eq-eqb n 0 e))

pub count_some : {n : ℕ} → (n ≡ 0 → ⊥) → (n - 1) / 12 + 1 ≡ reply_count n
unfolding reply_count
count_some {n} ne =
    let e : (n - 1) / 12 + 1 ≡ (n + 11) / 12 = omega (arith, ne) in
    let f : cond (eqb n 0) 1 ((n + 11) / 12) ≡ (n + 11) / 12 = simp (ne_eqb n 0 ne) in
    e ∙ sym f

-- the figures of a part are the lower of two numbers each
pub part_of : (n k : ℕ) {start len : ℕ} → start ≡ min (12 * k) n → len ≡ min (n - 12 * k) 12 → record { start = start; len = len } ≡ reply_part n k
unfolding reply_part
part_of n k e f = ap₂ (λ (s l : ℕ). record { start = s; len = l }) e f

-- where the packets end
module _ (n k : ℕ) where
  before_last : k + 1 < reply_count n → 12 * (k + 1) < n
  unfolding reply_count
  before_last h = by_test (eqb n 0) none some
    where
      none : eqb n 0 ≡ true → 12 * (k + 1) < n
      none e = let f : cond (eqb n 0) 1 ((n + 11) / 12) ≡ 1 = simp e in absurd (omega (arith, h, f))

      some : eqb n 0 ≡ false → 12 * (k + 1) < n
      some e = let f : cond (eqb n 0) 1 ((n + 11) / 12) ≡ (n + 11) / 12 = simp e in omega (arith, h, f)

  at_last : k + 1 ≡ reply_count n → (12 * k ≤ n) × (n ≤ 12 * (k + 1))
  unfolding reply_count
  at_last h = by_test (eqb n 0) none some
    where
      none : eqb n 0 ≡ true → (12 * k ≤ n) × (n ≤ 12 * (k + 1))
      none e = let f : cond (eqb n 0) 1 ((n + 11) / 12) ≡ 1 = simp e in let z : n ≡ 0 = eqb-true n 0 e in (omega (arith, h, f, z), omega (arith, h, f, z))

      some : eqb n 0 ≡ false → (12 * k ≤ n) × (n ≤ 12 * (k + 1))
      some e = let f : cond (eqb n 0) 1 ((n + 11) / 12) ≡ (n + 11) / 12 = simp e in (omega (arith, h, f), omega (arith, h, f))

pub replies : Replies
unfolding reply_part reply_count
replies =
    record {
      first = λ n. omega arith;
      on = λ n k h. let b = before_last n k h in omega (arith, b);
      last = λ n k h. let b = at_last n k h in omega (arith, b.0, b.1);
      most = λ n k. omega arith;
      full = λ n k h. let b = before_last n k h in omega (arith, b);
      of_16 = (refl, refl, refl);
      of_none = (refl, refl);
    }
