-- The counters say how often each answer number was given since clearing. Assumes nothing.
use mathlib.Core.Path.{◌≡◌, refl, sym, ap, ◌∙◌}
use mathlib.Core.Bool.{Bool, true, false, cond}
use mathlib.Core.List.{List, [], ◌∷◌}
use Prim.Native.Nat.{ℕ, zero, suc, ◌+◌, ◌<◌, ◌≤◌}
use native.Mathlib.Omega.{arith}
use borrow.Author.Tests.{lt-ltb, le-ltb, eq-eqb, eqb-true, ltb-true, ltb-false, eqb-false}
use lib.Dec.{ltb, eqb}
use lib.ListN.{length, get_or, set, replicate, length-set, length-replicate}
use lib.Seq.{get_or-set_same, get_or-set_other}
use Rattle.counters.specs.declared.Counters.{Counters}
use Rattle.counters.specs.Counters.{cleared, one_more, raised, count_of}
use Rattle.counters.specs.History.{counted, times_of, capped, CountsAreHistory}

pub by_test : {P : Type 0} (b : Bool) → (b ≡ true → P) → (b ≡ false → P) → P
by_test true f g = f refl
by_test false f g = g refl

length-raised : (c : Counters) (n : ℕ) → length (raised c n).counts ≡ length c.counts
unfolding raised
length-raised c n = by_test (ltb n 22) (λ h. rw h (length-set c.counts n _)) (λ h. rw h refl)

-- the count of the answer number that was given, and of any other
same : (c : Counters) (n : ℕ) → n < 22 → length c.counts ≡ 22 → get_or (raised c n).counts n 0 ≡ one_more (get_or c.counts n 0)
unfolding raised
same c n h len = rw (lt-ltb n 22 h) (get_or-set_same c.counts n _ 0 (omega arith))

other : (c : Counters) (n m : ℕ) → (n ≡ m → ⊥) → get_or (raised c m).counts n 0 ≡ get_or c.counts n 0
unfolding raised
other c n m ne = by_test (ltb m 22) (λ h. rw h (get_or-set_other c.counts m n _ 0 ne)) (λ h. rw h refl)

capped-suc : (k : ℕ) → one_more (capped k) ≡ capped (suc k)
capped-suc k =
    by_test (ltb k 4294967295)
    (λ h. by_test (ltb (suc k) 4294967295)
    (λ g. simp (h, g) (omega arith))
    (λ g. simp (h, g) (omega (arith, ltb-true k 4294967295 h, ltb-false (suc k) 4294967295 g))))
    (λ h. simp (h, le-ltb (suc k) 4294967295 (omega (arith, ltb-false k 4294967295 h))))

-- a count that is right so far is right after more calls
from : (n : ℕ) → n < 22 → (ns : List ℕ) (c : Counters) (k : ℕ) → length c.counts ≡ 22 → get_or c.counts n 0 ≡ capped k
    → get_or (counted c ns).counts n 0 ≡ capped (k + times_of n ns)
from n h [] c k len is =
    let sum : k ≡ k + 0 = omega arith in
    is ∙ ap capped sum
from n h (m ∷ ms) c k len is =
    by_test (eqb n m)
    (λ e. let eq : n ≡ m = eqb-true n m e in
    let now : get_or (raised c m).counts n 0 ≡ capped (suc k) = rw (← eq) (same c n h len ∙ ap one_more is ∙ capped-suc k) in
    let sum : suc k + times_of n ms ≡ k + suc (times_of n ms) = omega arith in
    rw e (from n h ms (raised c m) (suc k) (length-raised c m ∙ len) now ∙ ap capped sum))
    (λ e. rw e (from n h ms (raised c m) k (length-raised c m ∙ len) (other c n m (eqb-false n m e) ∙ is)))

zeros : (n k : ℕ) → ◌≡◌ {A = ℕ} (get_or (replicate n 0) k 0) 0
zeros zero k = refl
zeros (suc n) zero = refl
zeros (suc n) (suc k) = zeros n k

count_read : (c : Counters) (n : ℕ) → n < 22 → count_of c n ≡ get_or c.counts n 0
unfolding count_of
count_read c n h = simp (lt-ltb n 22 h)

pub counts_are_history : CountsAreHistory
counts_are_history numbers n h =
    let sum : 0 + times_of n numbers ≡ times_of n numbers = omega arith in
    count_read (counted cleared numbers) n h ∙ from n h numbers cleared 0 (length-replicate {A = ℕ} 22 0) (zeros 22 n) ∙ ap capped sum
