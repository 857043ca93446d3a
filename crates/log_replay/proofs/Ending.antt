-- The table that the lines led to can be printed, and its printout is what follows the answers. Assumes nothing.
use Prim.Native.Nat.{ℕ, ◌-◌, ◌≤◌}
use mathlib.Core.Path.{◌≡◌, refl, sym, ap, ◌∙◌}
use mathlib.Core.Bool.{true, false, cond}
use mathlib.Core.List.{[], ◌∷◌}
use native.Mathlib.Omega.{arith}
use lib.ListN.{length, take, drop}
use lib.Seq.{length-take-le}
use Rattle.octets.specs.Octets.{Bytes, IsBytes, store}
use Rattle.octets.proofs.Laws.{bytes_take, bytes_drop}
use Rattle.lists.specs.Lists.{empty}
use Rattle.table_model.specs.Layout.{count_of}
use Rattle.table_model.specs.Sound.{table_sound}
use Rattle.printout.specs.Printout.{printout, printout_room}
use Rattle.printout.proofs.Sizes.{printout-fits}
use Rattle.log_state.specs.declared.Replay.{Replay}
use Rattle.log_state.specs.State.{size_of, state_of}
use Rattle.log_state.proofs.Memory.{size_some, size_fits, front_part}
use Rattle.log_replay.specs.Replay.{Reached, ending}
use Rattle.log_replay.proofs.Kept.{reached_good, good_table}

-- no table: nothing follows
ending_none : (replay : Replay) (memory : Bytes) → replay.count ≡ 0 → [] ≡ ending (state_of replay memory)
unfolding size_of
ending_none replay memory z = sym (ap (λ (k : ℕ). cond (empty (take (size_of k) memory)) [] (printout (take (size_of k) memory))) z)

pub nothing-printed : (replay : Replay) (memory out : Bytes) → replay.count ≡ 0
    → (0 ≡ length (ending (state_of replay memory))) × ((out ≡ store out 0 (ending (state_of replay memory))) × (0 ≤ printout_room 16))
nothing-printed replay memory out z =
    (ap length (ending_none replay memory z), (ap (store out 0) (ending_none replay memory z), omega arith))

not_empty : (s : Bytes) → 1 ≤ length s → empty s ≡ false
not_empty [] h = absurd (omega arith)
not_empty (b ∷ s) h = refl

module _ (replay : Replay) (memory : Bytes) (big : 46304 ≤ length memory) (few : replay.count ≤ 16) (some : replay.count ≡ 0 → ⊥)
    (r : Reached (state_of replay memory)) (z : ℕ) (e : z ≡ size_of replay.count) where
  abbrev table : Bytes
  table = take (z - 0) (drop 0 memory)

  is-table : table ≡ take (size_of replay.count) memory
  is-table = front_part memory z ∙ ap (λ (k : ℕ). take k memory) e

  pub printed-sound : table_sound table ≡ true
  printed-sound = ap table_sound is-table ∙ (good_table replay memory big few some (reached_good r)).0

  few-printed : count_of table ≤ 16
  few-printed = omega (arith, ap count_of is-table, (good_table replay memory big few some (reached_good r)).1)

  pub printed-room : printout_room (count_of table) ≤ printout_room 16
  printed-room = omega (arith, few-printed)

  ending-some : printout table ≡ ending (state_of replay memory)
  ending-some =
      let size : length (take (size_of replay.count) memory) ≡ size_of replay.count = length-take-le (size_of replay.count) memory (size_fits replay memory big few) in
      let kept : empty (take (size_of replay.count) memory) ≡ false = not_empty (take (size_of replay.count) memory) (omega (arith, size, size_some replay.count some)) in
      ap printout is-table ∙ rw kept refl

  -- what `put_table` writes
  pub printed : (out : Bytes) {n : ℕ} {out' : Bytes} → IsBytes memory → (n ≡ length (printout table)) × (out' ≡ store out 0 (printout table))
      → (n ≡ length (ending (state_of replay memory))) × ((out' ≡ store out 0 (ending (state_of replay memory))) × (n ≤ printout_room 16))
  printed out bs (len, written) =
      let fits = printout-fits table (bytes_take (z - 0) (drop 0 memory) (bytes_drop 0 memory bs)) printed-sound in
      (len ∙ ap length ending-some, (written ∙ ap (store out 0) ending-some, omega (arith, len, fits, printed-room)))
