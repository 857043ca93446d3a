-- The table as a state machine: each call's answer number, and the table that it leaves (document 01, "Answer numbers").
-- An accepted call changes one bucket, or by a sweep every bucket.
use Rattle.std.specs.Prelude.{ℕ, ◌+◌, ◌-◌, ◌≡◌, Bool, false, cond, not, ◌||◌, List, [], ◌∷◌, ◌++◌, map, leb, ltb, eqb, length, get_or, replicate}
use Rattle.node.specs.Nodes.{is_address}
use Rattle.octets.specs.Octets.{Bytes, IsBytes, same_bytes}
use Rattle.lists.specs.Lists.{first, modify}
use Rattle.bucket_model.specs.Contents.{Contents, no_contents}
use Rattle.bucket_model.specs.Rules.{not_verified, not_awaited, is_late, held_elsewhere, ping_out, no_room, on_ping_sent, on_pong, on_heard, on_sweep}
use Rattle.distance.specs.Distance.{distance, in_bucket, number_of_distance, keeps_number, slot_of_number}

-- why a datagram cannot be read, whatever the table holds
pub data Fault : Type 0 where
  wrong_length wrong_hash unknown_type bad_list bad_field expired : Fault

abbrev pub fault_number : Fault → ℕ
fault_number wrong_length = 3
fault_number wrong_hash = 4
fault_number unknown_type = 8
fault_number bad_list = 9
fault_number bad_field = 10
fault_number expired = 11

-- what a datagram reads as: its lowest fault, or as much of the packet as the table needs (of a pong, the hash of its ping;
-- `other` is a packet of type 3 to 6)
pub data Reading : Type 0 where
  refused : Fault → Reading
  ping : Reading
  pong : Bytes → Reading
  other : Reading

-- the reading is refused with this number
abbrev pub is_refused : ℕ → Reading → Bool
is_refused n (refused fault) = eqb (fault_number fault) n
is_refused n ping = false
is_refused n (pong hash) = false
is_refused n other = false

-- Keccak-256, the reading of a datagram at a Unix time, the own key's hash, and the number of buckets
pub record Env : Type 0 where
  pub hash : Bytes → Bytes
  pub read : Bytes → ℕ → Reading
  pub own : Bytes
  pub kept : ℕ

-- hashes, the own one too, are strings of 32 bytes
pub record Lawful (e : Env) : Type 0 where
  pub hash_size : (s : Bytes) → length (e.hash s) ≡ 32
  pub hash_bytes : (s : Bytes) → IsBytes (e.hash s)
  pub own_size : length e.own ≡ 32
  pub own_bytes : IsBytes e.own

-- the arguments of a call other than the table: milliseconds, Unix seconds, sender's address and UDP port, signer's key (empty if
-- none), bytes; milliseconds, key, address, UDP port, TCP port, packet hash; milliseconds; target and room for node records
pub data Call : Type 0 where
  datagram : ℕ → ℕ → Bytes → ℕ → Bytes → Bytes → Call
  ping_sent : ℕ → Bytes → Bytes → ℕ → ℕ → Bytes → Call
  sweep : ℕ → Call
  closest : Bytes → ℕ → Call
  -- the call with a clock reading that was refused before it gave a clock (document 02, C-20): it "counts as one that falls"
  unclocked : Call → Call

-- the clock of the last accepted call, and the buckets in rising number
pub record Table : Type 0 where
  pub clock : ℕ
  pub buckets : List Contents

-- a packet other than a pong: a verified sender is heard, of any other nothing changes
abbrev pub on_packet : ℕ → Bytes → ℕ → Bytes → Contents → Contents
on_packet now address udp key b = cond (not_verified now address udp key b) b (on_heard now key b)

abbrev pub on_datagram : ℕ → Bytes → ℕ → Bytes → Reading → Contents → Contents
on_datagram now address udp key (refused fault) b = b
on_datagram now address udp key ping b = on_packet now address udp key b
on_datagram now address udp key (pong hash) b = on_pong now key b
on_datagram now address udp key other b = on_packet now address udp key b

-- 16 to 18
abbrev pub held_refusals : Bytes → ℕ → Bytes → Contents → List (Bool × ℕ)
held_refusals address udp key b = (held_elsewhere address udp key b, 16) ∷ (ping_out key b, 17) ∷ (no_room key b, 18) ∷ []

module _ (e : Env) where
  -- ---- which bucket a key falls in

  abbrev pub is_own : Bytes → Bool
  is_own key = same_bytes (e.hash key) e.own

  abbrev pub distance_to : Bytes → ℕ
  distance_to key = distance e.own (e.hash key)

  unfoldable pub bucket_number : Bytes → ℕ
  bucket_number key = number_of_distance (distance_to key)

  -- "A table of B buckets keeps numbers 256−B to 255"
  abbrev pub first_kept : ℕ
  first_kept = 256 - e.kept

  abbrev pub is_kept : Bytes → Bool
  is_kept key = keeps_number e.kept (bucket_number key)

  -- where a key's bucket stands among those kept
  abbrev pub slot : Bytes → ℕ
  slot key = slot_of_number e.kept (bucket_number key)

  -- the key is in its own bucket where that stands at index i
  abbrev pub home_at : ℕ → Bytes → Bool
  home_at i key = in_bucket (first_kept + i) (distance_to key)

  -- "clock 0, nothing held"
  abbrev pub fresh : Table
  fresh = record { clock = 0; buckets = replicate e.kept no_contents }

  abbrev pub bucket_at : Table → ℕ → Contents
  bucket_at s i = get_or s.buckets i no_contents

  abbrev pub bucket_of : Table → Bytes → Contents
  bucket_of s key = bucket_at s (slot key)

  -- ---- a call's answer number: the lowest that applies. 1 never does, where the table is the one that the calls before left.

  -- 13 to 15
  abbrev pub packet_refusals : ℕ → Bytes → ℕ → Bytes → Reading → Contents → List (Bool × ℕ)
  packet_refusals now address udp key (refused fault) b = []
  packet_refusals now address udp key ping b = []
  packet_refusals now address udp key (pong hash) b = (not_awaited hash address udp key b, 14) ∷ (is_late now key b, 15) ∷ []
  packet_refusals now address udp key other b = (not_verified now address udp key b, 13) ∷ []

  -- 2 to 12
  abbrev pub datagram_front : ℕ → ℕ → Bytes → Bytes → Reading → List (Bool × ℕ)
  datagram_front clock now address key r =
      (ltb now clock, 2)
      ∷ (is_refused 3 r, 3)
      ∷ (is_refused 4 r, 4)
      ∷ (not (eqb (length key) 64), 5)
      ∷ (not (is_address address), 6)
      ∷ (is_own key, 7)
      ∷ (is_refused 8 r, 8)
      ∷ (is_refused 9 r, 9)
      ∷ (is_refused 10 r, 10)
      ∷ (is_refused 11 r, 11)
      ∷ (not (is_kept key), 12)
      ∷ []

  unfoldable pub datagram_refusals : ℕ → Contents → ℕ → Bytes → ℕ → Bytes → Reading → List (Bool × ℕ)
  datagram_refusals clock b now address udp key r = datagram_front clock now address key r ++ packet_refusals now address udp key r b

  -- 2 to 12
  abbrev pub ping_sent_front : ℕ → ℕ → Bytes → Bytes → Bytes → List (Bool × ℕ)
  ping_sent_front clock now key address hash =
      (ltb now clock, 2)
      ∷ (not (eqb (length hash) 32), 4)
      ∷ (not (eqb (length key) 64), 5)
      ∷ (not (is_address address), 6)
      ∷ (is_own key, 7)
      ∷ (not (is_kept key), 12)
      ∷ []

  unfoldable pub ping_sent_refusals : ℕ → Contents → ℕ → Bytes → Bytes → ℕ → Bytes → List (Bool × ℕ)
  ping_sent_refusals clock b now key address udp hash = ping_sent_front clock now key address hash ++ held_refusals address udp key b

  abbrev pub answer : Table → Call → ℕ
  answer s (datagram now unix address udp key bytes) =
      first (datagram_refusals s.clock (bucket_of s key) now address udp key (e.read bytes unix))
  answer s (ping_sent now key address udp tcp hash) = first (ping_sent_refusals s.clock (bucket_of s key) now key address udp hash)
  answer s (sweep now) = first ((ltb now s.clock, 2) ∷ [])
  answer s (closest target room) = first ((not (eqb (length target) 64), 5) ∷ (ltb room 16, 19) ∷ [])
  answer s (unclocked c) = 2

  -- "Accepted means answered 0"
  abbrev pub Accepted : Table → Call → Type 0
  Accepted s c = answer s c ≡ 0

  -- ---- the table that a call leaves

  abbrev pub effect : Table → Call → Table
  effect s (datagram now unix address udp key bytes) =
      record { clock = now; buckets = modify (slot key) (on_datagram now address udp key (e.read bytes unix)) s.buckets }
  effect s (ping_sent now key address udp tcp hash) =
      record { clock = now; buckets = modify (slot key) (on_ping_sent now key address udp tcp hash) s.buckets }
  effect s (sweep now) = record { clock = now; buckets = map (on_sweep now) s.buckets }
  effect s (closest target room) = s
  effect s (unclocked c) = s

  -- "A refusal .. changes nothing"
  abbrev pub next : Table → Call → Table
  next s c = cond (eqb (answer s c) 0) (effect s c) s

  -- ---- lists of calls

  -- the answer numbers of the calls, and the table after them
  abbrev pub answers : Table → List Call → List ℕ
  answers s [] = []
  answers s (c ∷ cs) = answer s c ∷ answers (next s c) cs

  abbrev pub table_after_all : Table → List Call → Table
  table_after_all s [] = s
  table_after_all s (c ∷ cs) = table_after_all (next s c) cs

  -- a call and the table that it was given
  pub record Event : Type 0 where
    pub given : Table
    pub call : Call

  -- a table, and the calls that led to it, latest first
  pub record Run : Type 0 where
    pub table : Table
    pub log : List Event

  abbrev pub start : Run
  start = record { table = fresh; log = [] }

  abbrev pub advance : Run → Call → Run
  advance r c = record { table = next r.table c; log = record { given = r.table; call = c } ∷ r.log }

  abbrev pub run_from : Run → List Call → Run
  run_from r [] = r
  run_from r (c ∷ cs) = run_from (advance r c) cs

  -- the calls followed from a fresh table
  abbrev pub run : List Call → Run
  run = run_from start
