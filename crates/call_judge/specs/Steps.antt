-- Steps of the datagram call: the tests before the sender's bucket is asked, one after the other.
use Rattle.std.specs.Prelude.{ℕ, Bool, cond, not, List, ◌∷◌, eqb, ltb}
use Rattle.octets.specs.Octets.{Bytes}
use Rattle.lists.specs.Lists.{first}
use Rattle.node.specs.declared.UnixSeconds.{UnixSeconds}
use Rattle.table_model.specs.Layout.{clock_of}
use Rattle.packet.specs.declared.Packet.{Packet}
use Rattle.packet.specs.declared.Parsed.{Parsed}
use Rattle.packet_envelope.specs.Envelope.{is_sized, hash_matches}
use Rattle.packet_datagram.specs.Datagram.{read_at}
use Rattle.call_history.specs.Model.{Reading, slot}
use Rattle.call_history.specs.Model as model
use Rattle.call_model.specs.Calls.{env_of, unsound_for}
use Rattle.call_model.specs.Reading.{reading}
use Rattle.table.specs.declared.Touched.{Touched}
use Rattle.call_touched.specs.Placed.{Placed}
use Rattle.call_touched.specs.Placed.{NotPlaced, In}
use Rattle.call_touched.specs.declared.Reach.{Reach}
use Rattle.call_touched.specs.declared.Reach.TheVariants.{Unsound, At}
use Rattle.call_touched.specs.Steps.{key_tests, kept_place}
use Rattle.packet.specs.declared.Parsed.TheVariants as parsed
use Rattle.call_judge.specs.declared.Judged.{Judged}
use Rattle.call_judge.specs.declared.Judged.TheVariants.{Refused, Passed}

-- 2 to 7
abbrev pub datagram_tests : ℕ → ℕ → Bytes → Touched → Bytes → List (Bool × ℕ)
datagram_tests clock now g t address = (ltb now clock, 2) ∷ (not (is_sized g), 3) ∷ (not (hash_matches g), 4) ∷ key_tests t address

-- 12, or the slot and the packet
abbrev pub with_packet : Placed → Packet → Judged
with_packet (NotPlaced n) p = Refused n
with_packet (In i) p = Passed i p

abbrev pub kept_slot : Touched → Packet → Judged
kept_slot t p = with_packet (kept_place t) p

abbrev pub after_reading : Touched → Parsed → Judged
after_reading t (parsed.Packet p) = kept_slot t p
after_reading t (parsed.Refused n) = Refused n

-- 2 to 12
abbrev pub judged_by : ℕ → Judged → Judged
judged_by n j = cond (eqb n 0) j (Refused n)

abbrev pub judged_at : ℕ → ℕ → UnixSeconds → Bytes → Touched → Bytes → Judged
judged_at clock now unix g t address = judged_by (first (datagram_tests clock now g t address)) (after_reading t (read_at g unix))

-- 1 to 12, by where the key leads
abbrev pub judged_on : ℕ → ℕ → UnixSeconds → Bytes → Reach → Bytes → Judged
judged_on clock now unix g Unsound address = Refused 1
judged_on clock now unix g (At t) address = judged_at clock now unix g t address

-- 1 to 12, in document 01's order: the first lines of its table of answer numbers
abbrev pub datagram_front : Bytes → ℕ → Bytes → Bytes → Reading → List (Bool × ℕ)
datagram_front s now address key r = (unsound_for reading s key, 1) ∷ model.datagram_front (env_of reading s) (clock_of s) now address key r

-- what was read, for the bucket in the slot i
abbrev pub passed_to : ℕ → Parsed → Judged
passed_to i (parsed.Packet p) = Passed i p
passed_to i (parsed.Refused n) = Refused n

unfoldable pub judged : Bytes → ℕ → UnixSeconds → Bytes → Bytes → Bytes → Judged
judged s now unix address key g =
    judged_by (first (datagram_front s now address key (reading g unix.0))) (passed_to (slot (env_of reading s) key) (read_at g unix))
