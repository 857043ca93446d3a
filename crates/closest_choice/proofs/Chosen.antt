-- What a closest call chooses, and the node of an entry. Assumes nothing.
use mathlib.Core.Path.{◌≡◌, refl, sym, ap, ◌∙◌}
use mathlib.Core.Bool.{true, false, cond, not}
use mathlib.Core.List.{List, []}
use Prim.Native.Nat.{ℕ, ◌+◌, ◌*◌, ◌≤◌, ◌<◌}
use native.Mathlib.Omega.{arith}
use borrow.Author.Tests.{le-leb, lt-ltb, le-ltb, eq-eqb, ne_eqb, not-true, not-false}
use lib.Dec.{eqb, ltb}
use lib.ListN.{length, get_or}
use Rattle.octets.specs.Octets.{Bytes, part}
use Rattle.octets.proofs.Laws.{get_d_part}
use Rattle.lists.proofs.Laws.{by_test}
use Rattle.keccak.specs.Sponge.{keccak256}
use Rattle.node.specs.declared.Node.{Node}
use Rattle.entry.specs.declared.Entry.{Entry}
use Rattle.entry.specs.Layout.{decode_entry, no_entry}
use Rattle.node.specs.Nodes.{no_node}
use Rattle.entry.specs.Nodes.{node_of}
use Rattle.bucket_model.specs.Contents.{entries_at, decode_bucket}
use Rattle.bucket_model.proofs.ByteForm.{entries_at-part, entry_at}
use Rattle.table_model.specs.Layout.{offset_of, bucket_at, buckets_of}
use Rattle.table_model.specs.Sound.{table_sound}
use Rattle.call_history.specs.Model.{closest}
use Rattle.call_model.specs.Calls.{answer_on}
use Rattle.closest_nearest.specs.declared.Nearest.{Nearest}
use Rattle.closest_nearest.specs.Nearest.{holding}
use Rattle.closest_order.specs.Taken.{distances}
use Rattle.closest_table.specs.declared.Chosen.{Chosen}
use Rattle.closest_table.specs.Closest.{closest_in}
use Rattle.closest_table.specs.Closest as nearest
use Rattle.closest_choice.specs.Choice.{choice_by, chosen, is_there, node_in}
use Rattle.closest_choice.specs.declared.Choice.{Choice}

-- ---- the choice, by what the chooser found

abbrev none : ℕ → Choice
none n = record { number = n; nearest = holding []; distances = 0 }

module _ (s target : Bytes) (room : ℕ) {hash : Bytes} (eh : hash ≡ keccak256 target) (c : Chosen) (e : c ≡ closest_in s hash) where
  abbrev tests : ℕ
  tests = cond (not (table_sound s)) 1 (cond (not (eqb (length target) 64)) 5 (cond (ltb room 16) 19 0))

  is_sound : c.sound ≡ table_sound s
  unfolding closest_in
  is_sound = ap (λ (x : Chosen). x.sound) e ∙ by_test (table_sound s) (λ t. rw t refl) (λ t. rw t refl)

  abbrev by_number : ℕ → Choice
  by_number n = choice_by n (nearest.closest (keccak256 target) (buckets_of s)) (distances s (keccak256 target))

  is-chosen : (n : ℕ) {r : Choice} → n ≡ tests → r ≡ by_number n → r ≡ chosen s target room
  unfolding chosen answer_on
  is-chosen n en er = er ∙ ap by_number en

  pub unsound : {r : Choice} → not c.sound ≡ true → r ≡ none 1 → r ≡ chosen s target room
  unsound t er = is-chosen 1 (sym (rw (sym is_sound ∙ not-true _ t) refl)) er

  module _ (sound : not c.sound ≡ false) where
    holds : table_sound s ≡ true
    holds = sym is_sound ∙ not-false _ sound

    pub wrong_target : {r : Choice} → (length target ≡ 64 → ⊥) → r ≡ none 5 → r ≡ chosen s target room
    wrong_target t er = is-chosen 5 (sym (rw (holds, ne_eqb _ _ t) refl)) er

    pub short-list : {r : Choice} → length target ≡ 64 → room < 16 → r ≡ none 19 → r ≡ chosen s target room
    short-list n t er = is-chosen 19 (sym (rw (holds, eq-eqb _ _ n, lt-ltb room 16 t) refl)) er

    found : c.nearest ≡ holding (nearest.closest (keccak256 target) (buckets_of s))
    unfolding closest_in
    found =
        ap (λ (x : Chosen). x.nearest) e ∙ rw holds (ap (λ (l : Bytes). holding (nearest.closest l (buckets_of s))) eh)

    counted : c.distances ≡ distances s (keccak256 target)
    unfolding closest_in
    counted = ap (λ (x : Chosen). x.distances) e ∙ rw holds (ap (distances s) eh)

    pub all-chosen : length target ≡ 64 → 16 ≤ room → record { number = 0; nearest = c.nearest; distances = c.distances } ≡ chosen s target room
    all-chosen n t =
        is-chosen 0 (sym (rw (holds, eq-eqb _ _ n, le-ltb room 16 t) refl))
        (ap (λ (x : Nearest). let r : Choice = record { number = 0; nearest = x; distances = c.distances } in r) found
        ∙ ap (λ (d : ℕ). let r : Choice = record { number = 0; nearest = holding (nearest.closest (keccak256 target) (buckets_of s)); distances = d } in r) counted)

-- ---- the node of an entry

module _ (s : Bytes) (slot index : ℕ) where
  abbrev at : ℕ
  at = offset_of slot

  pub no-entry : {r : Node} → is_there s slot index ≡ false → r ≡ no_node → r ≡ node_in s slot index
  unfolding node_in
  no-entry t er = er ∙ sym (rw t refl)

  pub some-entry : {e : Entry} {r : Node} → slot < 256 → at + 2862 ≤ length s → get_or s at 0 ≤ 16 → index < get_or s at 0
      → e ≡ decode_entry (part s (at + 2 + index * 143) 143) → r ≡ node_of e → r ≡ node_in s slot index
  unfolding node_in decode_bucket
  some-entry {e} a b n i ee er =
      let next : offset_of (slot + 1) ≤ length s = omega arith in
      let there : is_there s slot index ≡ true =
      rw (lt-ltb slot 256 a, le-leb (offset_of (slot + 1)) (length s) next, le-leb (get_or s at 0) 16 n, lt-ltb index (get_or s at 0) i) refl in
      let z : at + 0 ≡ at = omega arith in
      let count : get_or (part s at 2862) 0 0 ≡ get_or s at 0 = get_d_part s at 2862 0 (omega arith) ∙ ap (λ (k : ℕ). get_or s k 0) z in
      let entries : entries_at (part s at 2862) 2 (get_or (part s at 2862) 0 0) ≡ entries_at s (at + 2) (get_or s at 0) =
      ap (λ (k : ℕ). entries_at (part s at 2862) 2 k) count ∙ entries_at-part s at 2862 2 (get_or s at 0) (omega arith) in
      let is : e ≡ get_or (bucket_at s slot).entries index no_entry =
      ee ∙ sym (ap (λ (l : List Entry). get_or l index no_entry) entries ∙ entry_at s (at + 2) (get_or s at 0) index i) in
      er ∙ ap node_of is ∙ sym (rw there refl)
