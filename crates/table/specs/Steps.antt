-- Which bucket a key touches (document 01): "A bucket counts as touched where the key is 64 bytes, 7 doesn't apply and its bucket is kept".
use Rattle.std.specs.Prelude.{ℕ, ◌-◌, Bool, true, false, eqb, length}
use Rattle.octets.specs.Octets.{Bytes, same_bytes}
use Rattle.keccak.specs.Sponge.{keccak256}
use Rattle.distance.specs.Distance.{distance, number_of_distance, keeps_number, slot_of_number}
use Rattle.table_model.specs.Layout.{own_of, count_of}
use Rattle.table.specs.declared.Touched.{Touched}
use Rattle.table.specs.declared.Touched.TheVariants.{WrongKey, Own, NotKept, Slot}

-- the number of the bucket that a key falls in, in the table of the node with the hash `own`
abbrev pub number_of_key : Bytes → Bytes → ℕ
number_of_key own key = number_of_distance (distance own (keccak256 key))

abbrev pub pick : Bool → Touched → Touched → Touched
pick true a b = a
pick false a b = b

unfoldable pub touched_by : Bytes → Bytes → Touched
touched_by s key =
    pick (eqb (length key) 64)
    (pick (same_bytes (keccak256 key) (own_of s))
    Own
    (pick (keeps_number (count_of s) (number_of_key (own_of s) key)) (Slot (slot_of_number (count_of s) (number_of_key (own_of s) key))) NotKept))
    WrongKey
