-- What holds of a call on any bytes, sound or not.
use Rattle.std.specs.Prelude.{ℕ, ◌≡◌, ◌↔◌, true, false, List, [], ◌∷◌, eqb, length}
use Rattle.octets.specs.Octets.{Bytes, IsBytes}
use Rattle.lists.specs.Lists.{any}
use Rattle.node.specs.Nodes.{is_address}
use Rattle.table_model.specs.Layout.{header_sound}
use Rattle.table_model.specs.Sound.{bucket_sound, table_sound}
use Rattle.call_history.specs.Model.{Reading, Call, datagram, ping_sent, sweep, closest, unclocked, is_own, is_kept, slot}
use Rattle.call_history.specs.Chain.{IsCall}
use Rattle.call_model.specs.Reading.{reading}
use Rattle.call_model.specs.Calls.{env_of, answer_on, bytes_after}

-- the answer numbers that a call can give
abbrev pub numbers_of : Call → List ℕ
numbers_of (datagram now unix address udp key bytes) =
    0 ∷ 1 ∷ 2 ∷ 3 ∷ 4 ∷ 5 ∷ 6 ∷ 7 ∷ 8 ∷ 9 ∷ 10 ∷ 11 ∷ 12 ∷ 13 ∷ 14 ∷ 15 ∷ []
numbers_of (ping_sent now key address udp tcp hash) = 0 ∷ 1 ∷ 2 ∷ 4 ∷ 5 ∷ 6 ∷ 7 ∷ 12 ∷ 16 ∷ 17 ∷ 18 ∷ []
numbers_of (sweep now) = 0 ∷ 1 ∷ 2 ∷ []
numbers_of (closest target room) = 0 ∷ 1 ∷ 5 ∷ 19 ∷ []
numbers_of (unclocked c) = 1 ∷ 2 ∷ []

module _ (read : Bytes → ℕ → Reading) where
  -- "A bucket counts as touched where the key is 64 bytes, 7 doesn't apply and its bucket is kept"
  abbrev pub IsTouched : Bytes → Bytes → Type 0
  IsTouched s key = (length key ≡ 64) × (is_own (env_of read s) key ≡ false) × (is_kept (env_of read s) key ≡ true)

  -- the header is sound, and the key's bucket where it is touched
  abbrev pub SoundForKey : Bytes → Bytes → Type 0
  SoundForKey s key = (header_sound s ≡ true) × (IsTouched s key → bucket_sound s (slot (env_of read s) key) ≡ true)

  -- all that the call touches is sound: "a sweep and a closest call touch all"
  abbrev pub SoundFor : Bytes → Call → Type 0
  SoundFor s (datagram now unix address udp key bytes) = SoundForKey s key
  SoundFor s (ping_sent now key address udp tcp hash) = SoundForKey s key
  SoundFor s (sweep now) = table_sound s ≡ true
  SoundFor s (closest target room) = table_sound s ≡ true
  SoundFor s (unclocked c) = SoundFor s c

  pub record OnAnyBytes : Type 0 where
    pub number_listed : (s : Bytes) (c : Call) → any (eqb (answer_on read s c)) (numbers_of c) ≡ true
    -- 1 is "given exactly if .. header or a touched bucket not sound"
    pub one-exactly : (s : Bytes) (c : Call) → (answer_on read s c ≡ 1) ↔ (SoundFor s c → ⊥)
    -- "A refusal .. changes nothing lent but the tally"
    pub refused_unchanged : (s : Bytes) (c : Call) → (answer_on read s c ≡ 0 → ⊥) → bytes_after read s c ≡ s
    -- a closest call "changes no table byte"
    pub closest-unchanged : (s target : Bytes) (room : ℕ) → bytes_after read s (closest target room) ≡ s
    pub length-kept : (s : Bytes) (c : Call) → IsBytes s → IsCall c → length (bytes_after read s c) ≡ length s
    -- "every accepted call leaves a sound table sound"
    pub sound-kept : (s : Bytes) (c : Call) → IsBytes s → IsCall c → table_sound s ≡ true → table_sound (bytes_after read s c) ≡ true

-- two wrong addresses are answered alike, and leave the same bytes
abbrev pub WrongAddresses : Type 0
WrongAddresses =
    (s : Bytes) (now unix : ℕ) (a a' : Bytes) (udp : ℕ) (key g : Bytes) → is_address a ≡ false → is_address a' ≡ false
    → (answer_on reading s (datagram now unix a udp key g) ≡ answer_on reading s (datagram now unix a' udp key g))
    × (bytes_after reading s (datagram now unix a udp key g) ≡ bytes_after reading s (datagram now unix a' udp key g))
