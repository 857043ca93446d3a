-- What a closest call chooses, as what it answers and writes. Assumes nothing.
use mathlib.Core.Path.{◌≡◌, refl, sym, ap, ◌∙◌}
use mathlib.Core.Bool.{true, cond}
use mathlib.Core.List.{List, [], ◌++◌, map}
use Prim.Native.Nat.{ℕ, ◌≤◌, min}
use native.Mathlib.Omega.{arith}
use borrow.Author.Tests.{eqb-true, ne_eqb, ltb-false, not-false}
use lib.Dec.{eqb}
use lib.ListN.{length, take, drop, length-take, length-map}
use Rattle.octets.specs.Octets.{Bytes}
use Rattle.lists.proofs.Laws.{by_test, passed}
use Rattle.keccak.specs.Sponge.{keccak256}
use Rattle.keccak.proofs.Laws.{keccak256-length, keccak256_bytes}
use Rattle.node.specs.declared.Node.{Node}
use Rattle.table_model.specs.Layout.{buckets_of}
use Rattle.table_model.specs.Sound.{table_sound}
use Rattle.closest_nearest.specs.declared.Near.{Near}
use Rattle.closest_nearest.specs.Sort.{sort_by}
use Rattle.closest_nearest.specs.Nearest.{farness}
use Rattle.closest_nearest.proofs.Sort.{length-sort}
use Rattle.closest_nearest.proofs.Held.{held-holding}
use Rattle.closest_table.specs.Closest.{candidates_from}
use Rattle.closest_table.specs.Closest as nearest
use Rattle.closest_table.proofs.Most.{at_most_31}
use Rattle.call_history.specs.Model.{closest}
use Rattle.call_model.specs.Reading.{reading}
use Rattle.call_model.specs.Calls.{refusals_on, answer_on}
use Rattle.call_model.proofs.AnyBytes.{on-any-bytes}
use Rattle.closest_choice.specs.declared.Choice.{Choice}
use Rattle.entry.specs.Nodes.{node_of}
use Rattle.closest_choice.specs.Choice.{chosen}
use Rattle.closest_choice.proofs.Nodes.{closest-nodes}
use Rattle.closest_nodes.specs.declared.Listed.{Listed}
use Rattle.closest_nodes.specs.Listing.{entries_of, distance_to, closest_nodes, closest_number, nodes_for, distances_for, listed, with_front, ClosestKept, answer_of, node_at, with_chosen}

-- "the min(16, seated) seated nodes"
pub count_of_closest : (s target : Bytes) → length (closest_nodes s target) ≡ min 16 (length (entries_of s))
unfolding closest_nodes
count_of_closest s target =
    let sorted = sort_by (distance_to target) (entries_of s) in
    length-map (take 16 sorted) node_of ∙ length-take 16 sorted ∙ ap (min 16) (length-sort (distance_to target) (entries_of s))

module _ (s target : Bytes) (room : ℕ) where
  abbrev number : ℕ
  number = closest_number s target room

  -- the entries that are chosen
  abbrev found : List Near
  found = cond (eqb number 0) (nearest.closest (keccak256 target) (buckets_of s)) []

  -- "Accepted means answered 0"
  accepted : number ≡ 0 → (table_sound s ≡ true) × (16 ≤ room)
  unfolding answer_on
  accepted e =
      let p = passed (refusals_on reading s (closest target room)) refl e in
      (not-false (table_sound s) p.0, ltb-false room 16 p.1.1.0)

  few : (length found ≤ 16) × (length found ≤ room)
  unfolding nearest.closest
  few =
      by_test (eqb number 0)
      (λ t. let sorted = sort_by farness (candidates_from (keccak256 target) 0 (buckets_of s)) in
      let most : length (take 16 sorted) ≤ 16 = omega (arith, length-take 16 sorted) in
      rw t (most, omega (arith, most, (accepted (eqb-true number 0 t)).1)))
      (λ t. rw t (omega arith, omega arith))

  their-nodes : map (node_at s) found ≡ nodes_for s target room
  unfolding nodes_for closest_nodes
  their-nodes =
      by_test (eqb number 0)
      (λ t. rw t (closest-nodes s (accepted (eqb-true number 0 t)).0 (keccak256 target) (keccak256-length target) (keccak256_bytes target)))
      (λ t. rw t refl)

  how-many : length found ≡ length (nodes_for s target room)
  how-many = sym (length-map found (node_at s)) ∙ ap length their-nodes

  -- "never more than 31"
  pub few-distances : distances_for s target room ≤ 31
  unfolding distances_for
  few-distances =
      by_test (eqb number 0) (λ t. rw t (at_most_31 s (accepted (eqb-true number 0 t)).0 (keccak256 target))) (λ t. rw t (omega arith))

  module _ (choice : Choice) (e : choice ≡ chosen s target room) where
    count-is : choice.nearest.count ≡ length found
    unfolding chosen
    count-is = ap (λ (c : Choice). c.nearest.count) e

    held-is : take choice.nearest.count choice.nearest.list ≡ found
    unfolding chosen
    held-is = ap (λ (c : Choice). take c.nearest.count c.nearest.list) e ∙ held-holding found

    pub fits : (choice.nearest.count ≤ 16) × (choice.nearest.count ≤ room)
    fits = (omega (arith, count-is, few.0), omega (arith, count-is, few.1))

    pub answers : answer_of choice ≡ listed s target room
    unfolding chosen distances_for
    answers =
        ap answer_of e
        ∙ ap (λ (n : ℕ). let r : Listed = record { number = number; count = n; distances = distances_for s target room } in r) how-many

    pub writes : (list : List Node) → with_chosen s choice list ≡ with_front (nodes_for s target room) list
    writes list =
        ap (λ (l : List Near). map (node_at s) l ++ drop choice.nearest.count list) held-is
        ∙ ap (λ (l : List Node). l ++ drop choice.nearest.count list) their-nodes
        ∙ ap (λ (n : ℕ). nodes_for s target room ++ drop n list) (count-is ∙ how-many)

pub closest_kept : ClosestKept
unfolding nodes_for
closest_kept =
    record {
      number_listed = λ s target room. (on-any-bytes reading).number_listed s (closest target room);
      at_most_31 = few-distances;
      refused_unchanged = λ s target list h. rw (ne_eqb (closest_number s target (length list)) 0 h) refl;
    }
