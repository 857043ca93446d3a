-- Where a key leads, step by step; and where a bucket by value holds it.
use Rattle.std.specs.Prelude.{ℕ, ◌+◌, ◌<◌, cond, eqb}
use Rattle.octets.specs.Octets.{Bytes}
use Rattle.bucket.specs.declared.Position.{Position}
use Rattle.bucket.specs.declared.Position.TheVariants.{Absent, InEntries, InReplacements}
use Rattle.table.specs.declared.Touched.{Touched}
use Rattle.table.specs.declared.Touched.TheVariants.{WrongKey, Own, NotKept, Slot}
use Rattle.call_history.specs.Model.{slot}
use Rattle.call_model.specs.Calls.{env_of}
use Rattle.call_model.specs.Reading.{reading}
use Rattle.call_touched.specs.Placed.{Placed}
use Rattle.call_touched.specs.Placed.{NotPlaced, In}
use Rattle.call_touched.specs.Steps.{SoundAt}
use Rattle.call_key.specs.declared.Held.{Held}
use Rattle.call_key.specs.declared.Held.TheVariants as held
use Rattle.call_key.specs.Number.{key_number}

abbrev pub place_of : Touched → Placed
place_of WrongKey = NotPlaced 5
place_of Own = NotPlaced 7
place_of NotKept = NotPlaced 12
place_of (Slot i) = In i

-- the answer number where it isn't 0, else the slot of the key's bucket
unfoldable pub key_place : Bytes → Bytes → Placed
key_place s key = cond (eqb (key_number s key) 0) (In (slot (env_of reading s) key)) (NotPlaced (key_number s key))

-- the bucket in a slot is there and sound
abbrev pub SoundPlace : Bytes → Placed → Type 0
SoundPlace s (NotPlaced n) = Unit {0}
SoundPlace s (In i) = SoundAt s i

-- a place has few before it
abbrev pub FewBefore : Position → Type 0
FewBefore Absent = Unit {0}
FewBefore (InEntries i) = i < 16
FewBefore (InReplacements i) = i < 16

abbrev pub held_at : ℕ → Position → Held
held_at distance Absent = held.Nowhere
held_at distance (InEntries i) = held.Entry distance (i + 1)
held_at distance (InReplacements i) = held.Replacement distance (i + 1)
