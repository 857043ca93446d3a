-- The counters don't tell in which order answers were counted. Assumes nothing.
use mathlib.Core.Path.{◌≡◌, refl, sym, ap}
use mathlib.Core.List.{List, [], ◌∷◌}
use Prim.Native.Nat.{ℕ, zero, suc}
use borrow.Author.Tests.{eqb-true, eqb-false}
use lib.Dec.{ltb, eqb}
use lib.ListN.{get_or, set}
use lib.Seq.{get_or-set_other}
use Rattle.counters.specs.declared.Counters.{Counters}
use Rattle.counters.specs.Counters.{one_more, raised}
use Rattle.counters.proofs.History.{by_test}

set_comm : (l : List ℕ) (i j : ℕ) (a b : ℕ) → (i ≡ j → ⊥) → set (set l i a) j b ≡ set (set l j b) i a
set_comm [] i j a b apart = refl
set_comm (x ∷ l) zero zero a b apart = absurd (apart refl)
set_comm (x ∷ l) zero (suc j) a b apart = refl
set_comm (x ∷ l) (suc i) zero a b apart = refl
set_comm (x ∷ l) (suc i) (suc j) a b apart = ap (λ m. x ∷ m) (set_comm l i j a b (λ h. apart (ap suc h)))

pub raised_comm : (k : Counters) (m n : ℕ) → raised (raised k m) n ≡ raised (raised k n) m
unfolding raised
raised_comm k m n =
    by_test (eqb m n)
    (λ e. rw (eqb-true m n e) refl)
    (λ e.
    let apart = eqb-false m n e in
    let l : List ℕ = k.counts in
    by_test (ltb m 22)
    (λ f. by_test (ltb n 22)
    (λ g.
    let a : ℕ = one_more (get_or l m 0) in
    let b : ℕ = one_more (get_or l n 0) in
    rw (f, g, get_or-set_other l m n a 0 (λ h. apart (sym h)), get_or-set_other l n m b 0 apart) (ap (λ c. record { counts = c }) (set_comm l m n a b apart)))
    (λ g. rw (f, g) refl))
    (λ f. rw f refl))
