-- The steps of the ping-sent call, as the functions inside this crate promise them.
use Rattle.std.specs.Prelude.{ℕ, Bool, cond, not, List, [], ◌∷◌, eqb, ltb, length}
use Rattle.octets.specs.Octets.{Bytes}
use Rattle.lists.specs.Lists.{first}
use Rattle.bucket_model.specs.Rules.{on_ping_sent}
use Rattle.table_model.specs.Layout.{clock_of, bucket_at}
use Rattle.call_history.specs.Model.{slot, held_refusals}
use Rattle.call_history.specs.Model as model
use Rattle.call_model.specs.Calls.{env_of, unsound_for}
use Rattle.call_model.specs.Reading.{reading}
use Rattle.table.specs.declared.Touched.{Touched}
use Rattle.call_touched.specs.Steps.{key_tests, kept_place, with_bucket}
use Rattle.call_touched.specs.declared.Reach.{Reach}
use Rattle.call_touched.specs.declared.Reach.TheVariants.{Unsound, At}
use Rattle.call_touched.specs.Placed.{Placed}
use Rattle.call_touched.specs.Placed.{NotPlaced, In}

-- 2 to 7
abbrev pub ping_sent_tests : ℕ → ℕ → Bytes → Touched → Bytes → List (Bool × ℕ)
ping_sent_tests clock now hash t address = (ltb now clock, 2) ∷ (not (eqb (length hash) 32), 4) ∷ key_tests t address

-- 1 to 12, in document 01's order: the first lines of its table of answer numbers
abbrev pub ping_sent_front : Bytes → ℕ → Bytes → Bytes → Bytes → List (Bool × ℕ)
ping_sent_front s now key address hash = (unsound_for reading s key, 1) ∷ model.ping_sent_front (env_of reading s) (clock_of s) now key address hash

abbrev pub placed_by : ℕ → Placed → Placed
placed_by n p = cond (eqb n 0) p (NotPlaced n)

abbrev pub placed_at : ℕ → ℕ → Bytes → Touched → Bytes → Placed
placed_at clock now hash t address = placed_by (first (ping_sent_tests clock now hash t address)) (kept_place t)

-- 1 to 12, by where the key leads
abbrev pub placed_on : ℕ → ℕ → Bytes → Reach → Bytes → Placed
placed_on clock now hash Unsound address = NotPlaced 1
placed_on clock now hash (At t) address = placed_at clock now hash t address

unfoldable pub placed : Bytes → ℕ → Bytes → Bytes → Bytes → Placed
placed s now key address hash = placed_by (first (ping_sent_front s now key address hash)) (In (slot (env_of reading s) key))

-- ---- a ping that was sent is noted in the bucket in a slot

unfoldable pub note_number : Bytes → ℕ → Bytes → ℕ → Bytes → ℕ
note_number s slot address udp key = first (held_refusals address udp key (bucket_at s slot))

unfoldable pub after_note : Bytes → ℕ → ℕ → Bytes → Bytes → ℕ → ℕ → Bytes → Bytes
after_note s slot now key address udp tcp hash =
    cond (eqb (note_number s slot address udp key) 0) (with_bucket s slot (on_ping_sent now key address udp tcp hash (bucket_at s slot)) now) s
