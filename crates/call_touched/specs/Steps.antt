-- Where a key leads in a table's bytes, and the bucket there.
use Rattle.std.specs.Prelude.{ℕ, ◌≤◌, ◌<◌, ◌≡◌, Bool, true, false, cond, not, List, [], ◌∷◌, length}
use Rattle.node.specs.Nodes.{is_address}
use Rattle.octets.specs.Octets.{Bytes, store, big_endian}
use Rattle.bucket_model.specs.Contents.{Contents, encode_bucket}
use Rattle.table_model.specs.Layout.{count_of, offset_of, header_sound}
use Rattle.table_model.specs.Sound.{bucket_sound}
use Rattle.call_model.specs.Calls.{unsound_for}
use Rattle.call_model.specs.Reading.{reading}
use Rattle.table.specs.declared.Touched.{Touched}
use Rattle.table.specs.declared.Touched.TheVariants.{WrongKey, Own, NotKept, Slot}
use Rattle.table.specs.Steps.{touched_by}
use Rattle.call_touched.specs.Placed.{Placed}
use Rattle.call_touched.specs.Placed.{NotPlaced, In}
use Rattle.call_touched.specs.declared.Reach.{Reach}
use Rattle.call_touched.specs.declared.Reach.TheVariants.{Unsound, At}

-- the bucket that a key touches, if any, is sound
abbrev pub touched_sound : Bytes → Touched → Bool
touched_sound s WrongKey = true
touched_sound s Own = true
touched_sound s NotKept = true
touched_sound s (Slot i) = bucket_sound s i

-- the slot is one of the table's
abbrev pub Below : ℕ → Touched → Type 0
Below count WrongKey = Unit {0}
Below count Own = Unit {0}
Below count NotKept = Unit {0}
Below count (Slot i) = i < count

-- unless 1 applies, the bucket that a key touches
unfoldable pub reached : Bytes → Bytes → Reach
reached s key = cond (unsound_for reading s key) Unsound (At (touched_by s key))

-- a key leads to a bucket only past a header
abbrev pub HasHeader : Bytes → Reach → Type 0
HasHeader s Unsound = Unit {0}
HasHeader s (At t) = 512 ≤ length s

-- ---- tests of the bucket that a key touches

abbrev pub is_wrong_key : Touched → Bool
is_wrong_key WrongKey = true
is_wrong_key Own = false
is_wrong_key NotKept = false
is_wrong_key (Slot i) = false

abbrev pub is_own_key : Touched → Bool
is_own_key WrongKey = false
is_own_key Own = true
is_own_key NotKept = false
is_own_key (Slot i) = false

-- 5 to 7
abbrev pub key_tests : Touched → Bytes → List (Bool × ℕ)
key_tests t address = (is_wrong_key t, 5) ∷ (not (is_address address), 6) ∷ (is_own_key t, 7) ∷ []

-- 12, or the slot
abbrev pub kept_place : Touched → Placed
kept_place WrongKey = NotPlaced 12
kept_place Own = NotPlaced 12
kept_place NotKept = NotPlaced 12
kept_place (Slot i) = In i

-- ---- a bucket that is there and sound

pub record SoundAt (s : Bytes) (slot : ℕ) : Type 0 where
  pub header : header_sound s ≡ true
  pub kept : slot < count_of s
  pub bucket : bucket_sound s slot ≡ true

-- the bytes with a bucket and the clock written anew
abbrev pub with_bucket : Bytes → ℕ → Contents → ℕ → Bytes
with_bucket s slot b now = store (store s (offset_of slot) (encode_bucket b)) 32 (big_endian 8 now)
