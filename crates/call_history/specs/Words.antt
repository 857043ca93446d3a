-- The words of demand 3, from the calls and their answers: seated, waiting, a ping recorded, a pong, a stay in line, proved, ahead,
-- last put at the tail.
use Rattle.std.specs.Prelude.{ℕ, suc, ◌<◌, ◌≡◌, ◌⊎◌, Bool, true, false, cond, not, ◌&&◌, ◌||◌, List, [], ◌∷◌, ◌++◌, eqb, ltb, length}
use Rattle.octets.specs.Octets.{Bytes, same_bytes}
use Rattle.lists.specs.Lists.{select, empty}
use Rattle.entry.specs.declared.Entry.{Entry}
use Rattle.bucket_model.specs.Rules.{of_key, held, may_take, not_verified, stays_entry, stays_replacement}
use Rattle.call_history.specs.Model.{Env, Reading, refused, ping, pong, other, Call, datagram, ping_sent, sweep, closest, unclocked, Table, is_kept, slot, home_at, bucket_of, answer, Accepted, next, Event, Run}

abbrev pub is_pong : Reading → Bool
is_pong (refused fault) = false
is_pong ping = false
is_pong (pong hash) = true
is_pong other = false

-- the entries taken after nodes in line have had their turn one after the other: each takes one where one is free and its range has
-- fewer than two (document 02, C-16), and else is passed over
abbrev pub taken_after : List Entry → List Entry → List Entry
taken_after taken [] = taken
taken_after taken (p ∷ line) = cond (may_take taken p.endpoint) (taken_after (taken ++ (p ∷ [])) line) (taken_after taken line)

module _ (e : Env) where
  -- ---- where the node with the key X stands

  -- X's own bucket is kept and stands at index i: "Bucket i has 2^i ≤ distance < 2^(i+1)" holds of its number
  abbrev pub OwnBucket : ℕ → Bytes → Type 0
  OwnBucket i X = (home_at e i X ≡ true) × (is_kept e X ≡ true) × (slot e X ≡ i)

  abbrev pub entry_of : Bytes → Table → List Entry
  entry_of X s = of_key X (bucket_of e s X).entries

  abbrev pub replacement_of : Bytes → Table → List Entry
  replacement_of X s = of_key X (bucket_of e s X).replacements

  -- seated
  abbrev pub HasEntry : Bytes → Table → Type 0
  HasEntry X s = 0 < length (entry_of X s)

  -- waiting
  abbrev pub IsReplacement : Bytes → Table → Type 0
  IsReplacement X s = 0 < length (replacement_of X s)

  -- ---- calls

  abbrev pub AcceptedSweep : Table → Call → ℕ → Type 0
  AcceptedSweep s c t = (c ≡ sweep t) × Accepted e s c

  -- "A ping recorded for a node is an accepted ping-sent call with its key": at the millisecond t
  abbrev pub PingAt : Bytes → ℕ → Table → Call → Type 0
  PingAt X t s (datagram now unix address udp key bytes) = ⊥
  PingAt X t s (ping_sent now key address udp tcp hash) = (key ≡ X) × (now ≡ t) × Accepted e s (ping_sent now key address udp tcp hash)
  PingAt X t s (sweep now) = ⊥
  PingAt X t s (closest target room) = ⊥
  PingAt X t s (unclocked c) = ⊥

  -- "a pong from it, a type 2 datagram with that signer": an accepted one
  abbrev pub pong_from : Bytes → Table → Call → Bool
  pong_from X s (datagram now unix address udp key bytes) =
      same_bytes X key && (is_pong (e.read bytes unix) && eqb (answer e s (datagram now unix address udp key bytes)) 0)
  pong_from X s (ping_sent now key address udp tcp hash) = false
  pong_from X s (sweep now) = false
  pong_from X s (closest target room) = false
  pong_from X s (unclocked c) = false

  -- a ping was recorded for X at t, with no accepted pong from X since
  abbrev pub OpenPing : Bytes → ℕ → List (Event e) → Type 0
  OpenPing X t [] = ⊥
  OpenPing X t (v ∷ log) =
      PingAt X t v.given v.call ⊎ ((pong_from X v.given v.call ≡ false) × OpenPing X t log)

  -- ---- a stay in line

  -- "A stay in line begins with the ping that put the node there": one accepted while the node is not held
  abbrev pub begins : Bytes → Table → Call → Bool
  begins X s (datagram now unix address udp key bytes) = false
  begins X s (ping_sent now key address udp tcp hash) =
      same_bytes X key && (eqb (answer e s (ping_sent now key address udp tcp hash)) 0 && empty (held key (bucket_of e s key)))
  begins X s (sweep now) = false
  begins X s (closest target room) = false
  begins X s (unclocked c) = false

  -- X has been in line since the ping that began its stay
  abbrev pub InStay : Bytes → List (Event e) → Type 0
  InStay X [] = ⊥
  InStay X (v ∷ log) = (begins X v.given v.call ≡ true) ⊎ (IsReplacement X v.given × InStay X log)

  -- the number of the latest call that passes the test, counted from 1; 0 where none does
  abbrev pub latest : (Event e → Bool) → List (Event e) → ℕ
  latest q [] = 0
  latest q (v ∷ log) = cond (q v) (suc (length log)) (latest q log)

  -- when the latest stay of X began
  abbrev pub began : List (Event e) → Bytes → ℕ
  began log X = latest (λ v. begins X v.given v.call) log

  -- "The node is proved from its first accepted pong in that stay"
  abbrev pub proved : List (Event e) → Bytes → Bool
  proved [] X = false
  proved (v ∷ log) X = not (begins X v.given v.call) && (pong_from X v.given v.call || proved log X)

  -- a proved waiting node
  abbrev pub ProvedReplacement : Bytes → Run e → Type 0
  ProvedReplacement X r = IsReplacement X r.table × (proved r.log X ≡ true)

  -- the entries of X's bucket after the removals of a sweep at t
  abbrev pub kept_entries : ℕ → Table → Bytes → List Entry
  kept_entries t s X = select (stays_entry t) (bucket_of e s X).entries

  -- the line of X's bucket after the removals of a sweep at t
  abbrev pub kept_replacements : ℕ → Table → Bytes → List Entry
  kept_replacements t s X = select (stays_replacement t) (bucket_of e s X).replacements

  -- "ahead of it are those in its bucket's line whose stay began earlier": the proved ones that a sweep at t keeps
  abbrev pub ahead : ℕ → Run e → Bytes → List Entry
  ahead t r X =
      select (λ p. proved r.log p.key && ltb (began r.log p.key) (began r.log X)) (kept_replacements t r.table X)

  -- the entries taken when it is X's turn: "after its removals and the seating of every proved one ahead of it that the sweep doesn't
  -- pass over"
  abbrev pub taken_ahead : ℕ → Run e → Bytes → List Entry
  taken_ahead t r X = taken_after (kept_entries t r.table X) (ahead t r X)

  -- ---- the order of the entries

  -- "Other packets accepted": one from X, verified where it came from
  abbrev pub heard_from : Bytes → Table → Call → Bool
  heard_from X s (datagram now unix address udp key bytes) =
      same_bytes X key
      && (not (is_pong (e.read bytes unix))
      && (eqb (answer e s (datagram now unix address udp key bytes)) 0 && not (not_verified now address udp key (bucket_of e s key))))
  heard_from X s (ping_sent now key address udp tcp hash) = false
  heard_from X s (sweep now) = false
  heard_from X s (closest target room) = false
  heard_from X s (unclocked c) = false

  -- the call puts X at the tail: it gives X an entry, or X has one and "goes to the tail" by its accepted pong or by another packet
  abbrev pub tails : Bytes → Table → Call → Bool
  tails X s c = cond (empty (entry_of X s)) (not (empty (entry_of X (next e s c)))) (pong_from X s c || heard_from X s c)

  -- when X was last put at the tail
  abbrev pub tailed : List (Event e) → Bytes → ℕ
  tailed log X = latest (λ v. tails X v.given v.call) log

  -- X was put at the tail longer ago than Y; where one sweep seated both, X's stay began earlier
  abbrev pub TailedBefore : List (Event e) → Bytes → Bytes → Type 0
  TailedBefore log X Y = (tailed log X < tailed log Y) ⊎ ((tailed log X ≡ tailed log Y) × (began log X < began log Y))
