-- What a closest call lists and counts, by the buckets taken (C-18).
use Rattle.std.specs.Prelude.{ℕ, ◌-◌, ◌≤◌, ◌<◌, ◌≡◌, ◌⊎◌, true, List, map, eqb, length, take}
use Rattle.octets.specs.Octets.{Bytes, IsBytes}
use Rattle.lists.specs.Lists.{select, any}
use Rattle.keccak.specs.Sponge.{keccak256}
use Rattle.distance.specs.Distance.{distance}
use Rattle.entry.specs.Nodes.{node_of}
use Rattle.table_model.specs.Layout.{own_of, count_of}
use Rattle.table_model.specs.Sound.{table_sound}
use Rattle.closest_nearest.specs.Sort.{sort_by}
use Rattle.closest_nodes.specs.Listing.{distance_to, closest_nodes}
use Rattle.closest_order.specs.Taking.{taking_order}
use Rattle.closest_order.specs.Taken.{taken_in, gathered, distances}

-- the numbers of a table's buckets in the order for a target
abbrev pub order_for : Bytes → Bytes → List ℕ
order_for s target = taking_order (distance (own_of s) (keccak256 target)) (count_of s)

pub record TakenKeeps (s target : Bytes) : Type 0 where
  -- "The list must stay what it is today": that of all entries, and the same of the entries gathered alone
  pub list_stays : closest_nodes s target ≡ map node_of (take 16 (sort_by (distance_to target) (gathered s (keccak256 target))))
  -- "never more than 31"
  pub at_most_31 : distances s (keccak256 target) ≤ 31
  -- sixteen are gathered, or all kept buckets are taken
  pub enough : (16 ≤ distances s (keccak256 target)) ⊎ (taken_in s (keccak256 target) ≡ order_for s target)
  -- "Kept buckets only": each has one place in the order, and no other has any
  pub kept_once : (i : ℕ) → 256 - count_of s ≤ i → i < 256 → length (select (eqb i) (order_for s target)) ≡ 1
  pub kept_only : (i : ℕ) → any (eqb i) (order_for s target) ≡ true → (256 - count_of s ≤ i) × (i < 256)

-- of every sound table and every target
abbrev pub TakenKeep : Type 0
TakenKeep = (s target : Bytes) → IsBytes s → table_sound s ≡ true → TakenKeeps s target
