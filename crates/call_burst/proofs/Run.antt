-- A burst's datagrams handed over one after the other: what has been done of them at each turn. Assumes nothing.
use mathlib.Core.Path.{◌≡◌, refl, sym, ap, ◌∙◌}
use mathlib.Core.Bool.{Bool, true, false}
use mathlib.Core.List.{List, [], ◌∷◌, ◌++◌, append_assoc, append-nil}
use Prim.Native.Nat.{ℕ, suc, ◌+◌, ◌-◌, ◌≤◌, ◌<◌}
use native.Mathlib.Numerals.{add-one}
use native.Mathlib.Omega.{arith}
use lib.ListN.{length, take, drop, get_or, set, length-set}
use lib.Seq.{take-suc-set, take_all}
use Rattle.octets.specs.Octets.{Bytes}
use Rattle.call_burst_lists.specs.Lists.{Burst, sum, is_whole}
use Rattle.call_burst_lists.proofs.Sums.{rest_next}
use Rattle.call_burst_step.specs.Datagram.{call_at}
use Rattle.call_burst_step.specs.Steps.{answer_by, bytes_by}
use Rattle.call_history.specs.Model.{Call}
use Rattle.call_history.specs.Chain.{answers_on, bytes_after_all}
use Rattle.call_burst.specs.Burst.{burst_number, calls_from, calls_of, BurstKept, LowBurstKept}
use Rattle.call_burst.specs.Steps.{table_by, numbers_by, list_by}

module _ (low : Bool) where
  abbrev pub table_last : Bytes → List Call → Bytes
  table_last = bytes_after_all (answer_by low) (bytes_by low)

  abbrev pub told : Bytes → List Call → List ℕ
  told = answers_on (answer_by low) (bytes_by low)

-- the datagrams from i on
abbrev pub rest : Burst → ℕ → ℕ → List Call
rest b i at = calls_from b i at (length b.lengths - i)

-- all of them
abbrev pub whole : Burst → List Call
whole b = calls_from b 0 0 (length b.lengths)

rest_first : (b : Burst) (i at : ℕ) → i < length b.lengths → rest b i at ≡ call_at b i at ∷ rest b (i + 1) (at + get_or b.lengths i 0)
unfolding calls_from
rest_first b i at h =
    let e : length b.lengths - i ≡ suc (length b.lengths - (i + 1)) = omega arith in
    rw e

rest_none : (b : Burst) (i at : ℕ) → i ≡ length b.lengths → rest b i at ≡ []
unfolding calls_from
rest_none b i at h =
    let e : length b.lengths - i ≡ 0 = omega arith in
    rw e

-- before datagram i, whose bytes begin at index at: the table t and the list ns, where the burst b began with the table s
pub record Going (low : Bool) (s : Bytes) (b : Burst) (at i : ℕ) (t ns : List ℕ) : Type 0 where
  pub upto : i ≤ length b.lengths
  pub place : at + sum (drop i b.lengths) ≡ length b.buffer
  pub list : length ns ≡ length b.lengths
  pub table : table_last low t (rest b i at) ≡ table_last low s (whole b)
  pub numbers : take i ns ++ told low t (rest b i at) ≡ told low s (whole b)

module _ (low : Bool) (s : Bytes) (b : Burst) where
  pub going_start : (ns : List ℕ) → sum b.lengths ≡ length b.buffer → length ns ≡ length b.lengths → Going low s b 0 0 s ns
  going_start ns sums list =
      let e : length b.lengths - 0 ≡ length b.lengths = omega arith in
      record { upto = omega arith; place = omega arith; list = list; table = rw e; numbers = rw e }

  -- datagram i handed over
  pub going_next : (at i : ℕ) (t ns t' ns' : List ℕ) → Going low s b at i t ns → i < length b.lengths → t' ≡ bytes_by low t (call_at b i at)
      → ns' ≡ set ns i (answer_by low t (call_at b i at)) → Going low s b (at + get_or b.lengths i 0) (i + 1) t' ns'
  going_next at i t ns t' ns' g h e e' =
      let c : Call = call_at b i at in
      let more : List Call = rest b (i + 1) (at + get_or b.lengths i 0) in
      let one : take (i + 1) ns' ≡ take i ns ++ (answer_by low t c ∷ []) =
      ap (take (i + 1)) e' ∙ rw (add-one) (take-suc-set ns i (answer_by low t c) (omega (arith, g.list))) in
      record {
        upto = omega arith;
        place = omega (arith, g.place, rest_next b.lengths i h);
        list = ap length e' ∙ length-set ns i (answer_by low t c) ∙ g.list;
        table = ap (λ (x : Bytes). table_last low x more) e ∙ sym (ap (table_last low t) (rest_first b i at h)) ∙ g.table;
        numbers =
            rw (one, e)
            (append_assoc (take i ns) (answer_by low t c ∷ []) (told low (bytes_by low t c) more)
            ∙ sym (ap (λ (cs : List Call). take i ns ++ told low t cs) (rest_first b i at h)) ∙ g.numbers);
      }

  module _ (at i : ℕ) (t ns : List ℕ) (g : Going low s b at i t ns) (end : i ≡ length b.lengths) where
    pub table-end : t ≡ table_last low s (whole b)
    table-end = sym (ap (table_last low t) (rest_none b i at end)) ∙ g.table

    pub numbers-end : ns ≡ told low s (whole b)
    numbers-end =
        sym (take_all i ns (omega (arith, g.list)))
        ∙ sym (append-nil (take i ns))
        ∙ sym (ap (λ (cs : List Call). take i ns ++ told low t cs) (rest_none b i at end))
        ∙ g.numbers

-- what a burst leaves, whole or not
module _ (low : Bool) (s : Bytes) (b : Burst) (list : List ℕ) where
  pub handled : {w : Bool} (t ns : List ℕ) → w ≡ is_whole b (length list) → w ≡ true → t ≡ table_last low s (whole b) → ns ≡ told low s (whole b)
      → (0 ≡ burst_number b (length list)) × ((t ≡ table_by low s b (length list)) × (ns ≡ list_by low s b list))
  unfolding calls_of
  handled t ns is h e e' = rw (← is, h) (refl, (e, e'))

  pub refused : {w : Bool} → w ≡ is_whole b (length list) → w ≡ false
      → (28 ≡ burst_number b (length list)) × ((s ≡ table_by low s b (length list)) × (list ≡ list_by low s b list))
  unfolding calls_of
  refused is h = rw (← is, h) (refl, (refl, refl))

  -- a refused burst
  kept : (burst_number b (length list) ≡ 0 → ⊥)
      → (burst_number b (length list) ≡ 28) × (table_by low s b (length list) ≡ s) × (list_by low s b list ≡ list) × (numbers_by low s b (length list) ≡ [])
  unfolding calls_of
  kept h = by_answer (is_whole b (length list)) refl
    where
      by_answer : (x : Bool) → is_whole b (length list) ≡ x
          → (burst_number b (length list) ≡ 28) × (table_by low s b (length list) ≡ s) × (list_by low s b list ≡ list) × (numbers_by low s b (length list) ≡ [])
      by_answer true e = absurd (h (rw e))
      by_answer false e = rw e (refl, refl, refl, refl)

pub burst_kept : BurstKept
burst_kept = kept false

pub low_burst_kept : LowBurstKept
low_burst_kept = kept true
