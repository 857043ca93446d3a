-- The calls on a table's bytes, whatever they hold: each call's answer number, and the bytes that it leaves.
use Rattle.std.specs.Prelude.{ℕ, Bool, true, cond, not, ◌&&◌, ◌||◌, List, [], ◌∷◌, map, eqb, ltb, length}
use Rattle.octets.specs.Octets.{Bytes, store, big_endian}
use Rattle.lists.specs.Lists.{first}
use Rattle.bucket_model.specs.Contents.{Contents, encode_bucket}
use Rattle.bucket_model.specs.Rules.{on_ping_sent, on_sweep}
use Rattle.table_model.specs.Layout.{encode_table, own_of, clock_of, count_of, offset_of, bucket_at, buckets_of, header_sound}
use Rattle.table_model.specs.Sound.{bucket_sound, table_sound}
use Rattle.call_history.specs.Model.{Env, Reading, Call, datagram, ping_sent, sweep, closest, unclocked, is_own, is_kept, slot, datagram_refusals, ping_sent_refusals, on_datagram}
use Rattle.call_history.specs.Keccak.{with_keccak}

-- the bytes with the clock written anew
abbrev pub at_clock : ℕ → Bytes → Bytes
at_clock now s = store s 32 (big_endian 8 now)

-- `read` is the reading of a datagram at a Unix time
module _ (read : Bytes → ℕ → Reading) where
  -- the rules with the own hash and the bucket count that the header has
  abbrev pub env_of : Bytes → Env
  env_of s = with_keccak read (own_of s) (count_of s)

  -- "A bucket counts as touched where the key is 64 bytes, 7 doesn't apply and its bucket is kept"
  abbrev pub touches : Bytes → Bytes → Bool
  touches s key = eqb (length key) 64 && (not (is_own (env_of s) key) && is_kept (env_of s) key)

  -- what a key's bucket holds
  abbrev pub bucket_for : Bytes → Bytes → Contents
  bucket_for s key = bucket_at s (slot (env_of s) key)

  -- 1: "table memory of the wrong length, bucket count outside 1 to 256, or header or a touched bucket not sound"
  abbrev pub unsound_for : Bytes → Bytes → Bool
  unsound_for s key = not (header_sound s) || (touches s key && not (bucket_sound s (slot (env_of s) key)))

  -- 1, of what a call touches: "a sweep and a closest call touch all"
  abbrev pub unsound_on : Bytes → Call → Bool
  unsound_on s (datagram now unix address udp key bytes) = unsound_for s key
  unsound_on s (ping_sent now key address udp tcp hash) = unsound_for s key
  unsound_on s (sweep now) = not (table_sound s)
  unsound_on s (closest target room) = not (table_sound s)
  unsound_on s (unclocked c) = unsound_on s c

  -- document 01's table of answer numbers for each call, "lowest that applies is given"; "a sweep and a closest call touch all"
  abbrev pub refusals_on : Bytes → Call → List (Bool × ℕ)
  refusals_on s (datagram now unix address udp key bytes) =
      (unsound_for s key, 1) ∷ datagram_refusals (env_of s) (clock_of s) (bucket_for s key) now address udp key (read bytes unix)
  refusals_on s (ping_sent now key address udp tcp hash) =
      (unsound_for s key, 1) ∷ ping_sent_refusals (env_of s) (clock_of s) (bucket_for s key) now key address udp hash
  refusals_on s (sweep now) = (not (table_sound s), 1) ∷ (ltb now (clock_of s), 2) ∷ []
  refusals_on s (closest target room) = (not (table_sound s), 1) ∷ (not (eqb (length target) 64), 5) ∷ (ltb room 16, 19) ∷ []
  refusals_on s (unclocked c) = (unsound_on s c, 1) ∷ (true, 2) ∷ []

  unfoldable pub answer_on : Bytes → Call → ℕ
  answer_on s c = first (refusals_on s c)

  -- the bytes with a key's bucket written anew
  abbrev pub with_bucket_for : Bytes → (Contents → Contents) → Bytes → Bytes
  with_bucket_for key f s = store s (offset_of (slot (env_of s) key)) (encode_bucket (f (bucket_for s key)))

  -- what an accepted call leaves
  abbrev pub effect_on : Bytes → Call → Bytes
  effect_on s (datagram now unix address udp key bytes) =
      at_clock now (with_bucket_for key (on_datagram now address udp key (read bytes unix)) s)
  effect_on s (ping_sent now key address udp tcp hash) =
      at_clock now (with_bucket_for key (on_ping_sent now key address udp tcp hash) s)
  effect_on s (sweep now) = encode_table (own_of s) now (map (on_sweep now) (buckets_of s))
  effect_on s (closest target room) = s
  effect_on s (unclocked c) = s

  -- "A refusal .. changes nothing lent but the tally"
  unfoldable pub bytes_after : Bytes → Call → Bytes
  bytes_after s c = cond (eqb (answer_on s c) 0) (effect_on s c) s
