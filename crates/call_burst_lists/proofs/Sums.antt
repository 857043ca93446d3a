-- Laws of what is left of a buffer behind the datagrams of a burst. Assumes nothing.
use mathlib.Core.Path.{◌≡◌, refl, sym}
use mathlib.Core.Bool.{Bool, true, false}
use mathlib.Core.List.{List}
use Prim.Native.Nat.{ℕ, suc, ◌+◌, ◌-◌, ◌≤◌, ◌<◌}
use native.Mathlib.Numerals.{add-one}
use native.Mathlib.Omega.{arith}
use borrow.Author.Tests.{eqb-true, eqb-false, eq-eqb, ne_eqb}
use lib.Dec.{eqb}
use lib.ListN.{length, drop, get_or, drop_of_length-le}
use lib.Seq.{drop-cons}
use Rattle.call_burst_lists.specs.Lists.{sum}

agree : (a b c d : ℕ) → (a ≡ b → c ≡ d) → (c ≡ d → a ≡ b) → eqb a b ≡ eqb c d
agree a b c d f g = by_answer (eqb a b) refl
  where
    by_answer : (x : Bool) → eqb a b ≡ x → x ≡ eqb c d
    by_answer true e = sym (eq-eqb c d (f (eqb-true a b e)))
    by_answer false e = sym (ne_eqb c d (λ h. eqb-false a b e (g h)))

-- a datagram that fits
pub left_next : (l : List ℕ) (i left : ℕ) → i < length l → get_or l i 0 ≤ left
    → eqb (sum (drop (i + 1) l)) (left - get_or l i 0) ≡ eqb (sum (drop i l)) left
left_next l i left h fits =
    rw (add-one, drop-cons l i 0)
    (agree (sum (drop (suc i) l)) (left - get_or l i 0) (get_or l i 0 + sum (drop (suc i) l)) left (λ e. omega arith) (λ e. omega arith))

-- one that doesn't
pub left_short : (l : List ℕ) (i left : ℕ) → i < length l → left < get_or l i 0 → eqb (sum (drop i l)) left ≡ false
left_short l i left h short = rw (drop-cons l i 0) (ne_eqb (get_or l i 0 + sum (drop (suc i) l)) left (λ e. omega arith))

pub left_end : (l : List ℕ) (i left : ℕ) → length l ≤ i → eqb left 0 ≡ eqb (sum (drop i l)) left
left_end l i left h = rw (drop_of_length-le l h) (agree left 0 0 left (λ e. sym e) (λ e. sym e))

-- where datagram i ends
pub rest_next : (l : List ℕ) (i : ℕ) → i < length l → sum (drop i l) ≡ get_or l i 0 + sum (drop (i + 1) l)
rest_next l i h = rw (add-one, drop-cons l i 0)
