-- What a closest call chooses (document 01, "Closest"), and the node of an entry that was chosen.
use Rattle.std.specs.Prelude.{ℕ, ◌+◌, Bool, cond, ◌&&◌, List, [], eqb, leb, ltb, length, get_or}
use Rattle.octets.specs.Octets.{Bytes}
use Rattle.keccak.specs.Sponge.{keccak256}
use Rattle.node.specs.declared.Node.{Node}
use Rattle.entry.specs.declared.Entry.{Entry}
use Rattle.entry.specs.Layout.{no_entry}
use Rattle.node.specs.Nodes.{no_node}
use Rattle.entry.specs.Nodes.{node_of}
use Rattle.table_model.specs.Layout.{offset_of, bucket_at, buckets_of}
use Rattle.call_history.specs.Model.{closest}
use Rattle.call_model.specs.Reading.{reading}
use Rattle.call_model.specs.Calls.{answer_on}
use Rattle.closest_nearest.specs.declared.Near.{Near}
use Rattle.closest_nearest.specs.Nearest.{holding}
use Rattle.closest_order.specs.Taken.{distances}
use Rattle.closest_table.specs.Closest as nearest
use Rattle.closest_choice.specs.declared.Choice.{Choice}

-- nothing is chosen where the call is refused
abbrev pub choice_by : ℕ → List Near → ℕ → Choice
choice_by n l d = record { number = n; nearest = holding (cond (eqb n 0) l []); distances = cond (eqb n 0) d 0 }

-- the answer number, the entries nearest to the target, nearest first, and how many distances were worked out, for a list of `room` records
unfoldable pub chosen : Bytes → Bytes → ℕ → Choice
chosen s target room =
    choice_by (answer_on reading s (closest target room)) (nearest.closest (keccak256 target) (buckets_of s)) (distances s (keccak256 target))

-- there is an entry with this index, counted from the head, in the bucket in this slot
abbrev pub is_there : Bytes → ℕ → ℕ → Bool
is_there s slot index =
    ltb slot 256 && (leb (offset_of (slot + 1)) (length s) && (leb (get_or s (offset_of slot) 0) 16 && ltb index (get_or s (offset_of slot) 0)))

-- its node; a node of zeros where there is none
unfoldable pub node_in : Bytes → ℕ → ℕ → Node
node_in s slot index = cond (is_there s slot index) (node_of (get_or (bucket_at s slot).entries index no_entry)) no_node
