-- The buckets that a closest call takes of a table's bytes, and how many distances it works out (C-18).
use Rattle.std.specs.Prelude.{ℕ, length}
use mathlib.Core.List.{List, flat_map}
use Rattle.octets.specs.Octets.{Bytes}
use Rattle.distance.specs.Distance.{distance, slot_of_number}
use Rattle.entry.specs.declared.Entry.{Entry}
use Rattle.table_model.specs.Layout.{own_of, count_of, bucket_at}
use Rattle.closest_order.specs.Taking.{taking_order, taken_from}

-- the entries (document 01's seats) of the bucket with this number
abbrev pub entries_in : Bytes → ℕ → List Entry
entries_in s i = (bucket_at s (slot_of_number (count_of s) i)).entries

-- the numbers of the buckets taken for a target's hash
unfoldable pub taken_in : Bytes → Bytes → List ℕ
taken_in s target = taken_from (λ i. length (entries_in s i)) 0 (taking_order (distance (own_of s) target) (count_of s))

-- the entries gathered: of each of them the distance to the target is worked out
abbrev pub gathered : Bytes → Bytes → List Entry
gathered s target = flat_map (entries_in s) (taken_in s target)

-- "Return also the number of distances worked out; it equals the nodes seated in the buckets taken"
unfoldable pub distances : Bytes → Bytes → ℕ
distances s target = length (gathered s target)
