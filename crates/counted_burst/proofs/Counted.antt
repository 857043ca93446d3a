-- The counters after a burst, with full milliseconds or with readings (`low`). Assumes nothing.
use mathlib.Core.Path.{◌≡◌, refl, sym, ap, ◌∙◌}
use mathlib.Core.Bool.{Bool, true, false}
use mathlib.Core.List.{List}
use Prim.Native.Nat.{ℕ, ◌+◌, ◌≤◌, ◌<◌}
use native.Mathlib.Numerals.{add-one}
use native.Mathlib.Omega.{arith}
use lib.ListN.{length, drop, get_or, drop_of_length-le}
use lib.Seq.{drop-cons}
use Rattle.octets.specs.Octets.{Bytes}
use Rattle.counters.specs.declared.Counters.{Counters}
use Rattle.counters.specs.Counters.{raised}
use Rattle.counters.specs.History.{counted}
use Rattle.call_burst_lists.specs.Lists.{Burst, is_whole}
use Rattle.call_burst.specs.Burst.{burst_number, calls_of}
use Rattle.call_burst.specs.Steps.{numbers_by, list_by}

pub counted_next : (k : Counters) (l : List ℕ) (i : ℕ) → i < length l → counted (raised k (get_or l i 0)) (drop (i + 1) l) ≡ counted k (drop i l)
counted_next k l i h = rw (add-one, drop-cons l i 0)

pub counted_end : (k : Counters) (l : List ℕ) (i : ℕ) → length l ≤ i → k ≡ counted k (drop i l)
counted_end k l i h = rw (drop_of_length-le l h)

module _ (low : Bool) (k : Counters) (s : Bytes) (b : Burst) where
  -- of a refused burst
  pub nothing-counted : (room n : ℕ) → n ≡ burst_number b room → (n ≡ 0 → ⊥) → k ≡ counted k (numbers_by low s b room)
  unfolding calls_of
  nothing-counted room n e refused = by_answer (is_whole b room) refl
    where
      by_answer : (x : Bool) → is_whole b room ≡ x → k ≡ counted k (numbers_by low s b room)
      by_answer true h = absurd (refused (e ∙ rw h))
      by_answer false h = rw h

  -- of a whole one: the list has its numbers
  pub all_counted : (list ns : List ℕ) (n : ℕ) (u : Counters) → n ≡ burst_number b (length list) → n ≡ 0 → ns ≡ list_by low s b list → u ≡ counted k ns
      → u ≡ counted k (numbers_by low s b (length list))
  all_counted list ns n u e zero told is = is ∙ ap (counted k) (told ∙ by_answer (is_whole b (length list)) refl)
    where
      by_answer : (x : Bool) → is_whole b (length list) ≡ x → list_by low s b list ≡ numbers_by low s b (length list)
      by_answer true h = rw h
      by_answer false h = let no : ◌≡◌ {A = ℕ} 0 28 = sym zero ∙ e ∙ rw h in absurd (omega arith)
