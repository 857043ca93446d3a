-- The closest call (document 01, "Closest"): what it answers, and what the lent list holds after it.
use Rattle.std.specs.Prelude.{ℕ, ◌≤◌, ◌≡◌, true, cond, eqb, length, get_or, take, drop}
use mathlib.Core.List.{List, [], ◌++◌, map, flat_map}
use Rattle.octets.specs.Octets.{Bytes}
use Rattle.lists.specs.Lists.{any}
use Rattle.keccak.specs.Sponge.{keccak256}
use Rattle.distance.specs.Distance.{distance}
use Rattle.node.specs.declared.Node.{Node}
use Rattle.entry.specs.declared.Entry.{Entry}
use Rattle.table_model.specs.Layout.{buckets_of}
use Rattle.closest_nearest.specs.declared.Near.{Near}
use Rattle.closest_nearest.specs.Sort.{sort_by}
use Rattle.closest_order.specs.Taken.{distances}
use Rattle.call_history.specs.Model.{closest}
use Rattle.call_model.specs.Reading.{reading}
use Rattle.call_model.specs.Calls.{answer_on}
use Rattle.call_model.specs.AnyBytes.{numbers_of}
use Rattle.closest_choice.specs.declared.Choice.{Choice}
use Rattle.entry.specs.Nodes.{node_of}
use Rattle.closest_choice.specs.Choice.{node_in}
use Rattle.closest_nodes.specs.declared.Listed.{Listed}

-- the entries (document 01's seats) of all buckets: in rising bucket number, in each from the head
abbrev pub entries_of : Bytes → List Entry
entries_of s = flat_map (λ b. b.entries) (buckets_of s)

-- "Distance is the XOR of the two keys' Keccak-256 hashes, as a big-endian number"
abbrev pub distance_to : Bytes → Entry → ℕ
distance_to target e = distance (keccak256 target) (keccak256 e.key)

-- "the min(16, seated) seated nodes nearest to the target, nearest first; equal distances by seat, head first": the sort keeps the order
-- of entries at one distance
unfoldable pub closest_nodes : Bytes → Bytes → List Node
closest_nodes s target = map node_of (take 16 (sort_by (distance_to target) (entries_of s)))

-- the answer number, for a list of `room` records: 1, 5, 19, or 0
abbrev pub closest_number : Bytes → Bytes → ℕ → ℕ
closest_number s target room = answer_on reading s (closest target room)

-- the nodes that the list receives: none where the call is refused
unfoldable pub nodes_for : Bytes → Bytes → ℕ → List Node
nodes_for s target room = cond (eqb (closest_number s target room) 0) (closest_nodes s target) []

-- "Return also the number of distances worked out; it equals the nodes seated in the buckets taken and is never more than 31": none where the
-- call is refused
unfoldable pub distances_for : Bytes → Bytes → ℕ → ℕ
distances_for s target room = cond (eqb (closest_number s target room) 0) (distances s (keccak256 target)) 0

-- what the call answers: its number, how many nodes the list received, and how many distances were worked out
abbrev pub listed : Bytes → Bytes → ℕ → Listed
listed s target room =
    record { number = closest_number s target room; count = length (nodes_for s target room); distances = distances_for s target room }

-- nodes at the front of a list: "Records after the count are untouched"
abbrev pub with_front : List Node → List Node → List Node
with_front nodes list = nodes ++ drop (length nodes) list

-- the list after the call
abbrev pub list_after : Bytes → Bytes → List Node → List Node
list_after s target list = with_front (nodes_for s target (length list)) list

pub record ClosestKept : Type 0 where
  pub number_listed : (s target : Bytes) (room : ℕ) → any (eqb (listed s target room).number) (numbers_of (closest target room)) ≡ true
  pub at_most_31 : (s target : Bytes) (room : ℕ) → (listed s target room).distances ≤ 31
  -- "A refusal .. changes nothing lent"
  pub refused_unchanged : (s target : Bytes) (list : List Node) → ((listed s target (length list)).number ≡ 0 → ⊥) → list_after s target list ≡ list

-- ---- the steps of the call: what `choice` tells, and its nodes

abbrev pub answer_of : Choice → Listed
answer_of choice = record { number = choice.number; count = choice.nearest.count; distances = choice.distances }

abbrev pub node_at : Bytes → Near → Node
node_at s n = node_in s n.slot n.index

-- what a read past the end of the chosen entries gives
abbrev pub nowhere : Near
nowhere = record { slot = 0; index = 0; far = [] }

abbrev pub chosen_node : Bytes → Choice → ℕ → Node
chosen_node s choice i = node_at s (get_or choice.nearest.list i nowhere)

abbrev pub with_chosen : Bytes → Choice → List Node → List Node
with_chosen s choice list = map (node_at s) (take choice.nearest.count choice.nearest.list) ++ drop choice.nearest.count list
