-- Demand 3: what every list of calls, from a fresh table, does to a node's entry and to its stay in line.
use Rattle.std.specs.Prelude.{ℕ, suc, ◌+◌, ◌<◌, ◌≤◌, ◌≡◌, ◌⊎◌, ◌↔◌, true, cond, List, [], ◌∷◌, ◌++◌, length}
use Rattle.std.proofs.Math.Option.{Option, none, some}
use Rattle.octets.specs.Octets.{Bytes}
use Rattle.lists.specs.Lists.{empty, All, Rising}
use Rattle.node.specs.declared.Endpoint.{Endpoint}
use Rattle.bucket_model.specs.Facts.{SeatFor}
use Rattle.bucket_model.specs.Rules.{max_of_range, range_count, of_key, held, is_proved}
use Rattle.call_history.specs.Model.{Env, Call, datagram, ping_sent, sweep, closest, unclocked, Table, bucket_of, bucket_at, next, Run, advance, run}
use Rattle.call_history.specs.Words.{OwnBucket, entry_of, HasEntry, IsReplacement, AcceptedSweep, pong_from, OpenPing, begins, InStay, began, proved, ProvedReplacement, kept_replacements, taken_ahead, TailedBefore}

-- the box clock reading of a call; a closest call has none, and counts as read when the last one was
abbrev pub clock_reading : ℕ → Call → ℕ
clock_reading last (datagram now unix address udp key bytes) = now
clock_reading last (ping_sent now key address udp tcp hash) = now
clock_reading last (sweep now) = now
clock_reading last (closest target room) = last
clock_reading last (unclocked c) = last

-- it doesn't fall; "a reading refused here counts as one that falls" (document 02, C-20)
abbrev pub Rises : ℕ → Call → Type 0
Rises last (datagram now unix address udp key bytes) = last ≤ now
Rises last (ping_sent now key address udp tcp hash) = last ≤ now
Rises last (sweep now) = last ≤ now
Rises last (closest target room) = Unit {0}
Rises last (unclocked c) = ⊥

-- the readings don't fall, from `last` on
abbrev pub NotFalling : ℕ → List Call → Type 0
NotFalling last [] = Unit {0}
NotFalling last (c ∷ cs) = Rises last c × NotFalling (clock_reading last c) cs

-- the second list is the first without some datagrams that another key than X signed, or none, every other call the same
pub data LeftOut (X : Bytes) : List Call → List Call → Type 0 where
  nothing : LeftOut X [] []
  same : (c : Call) {cs ds : List Call} → LeftOut X cs ds → LeftOut X (c ∷ cs) (c ∷ ds)
  less : (now unix : ℕ) (address : Bytes) (udp : ℕ) (key bytes : Bytes) {cs ds : List Call}
      → (key ≡ X → ⊥) → LeftOut X cs ds → LeftOut X (datagram now unix address udp key bytes ∷ cs) ds

-- a count of sweeps, with this call
abbrev pub count_sweep : Call → ℕ → ℕ
count_sweep (datagram now unix address udp key bytes) n = n
count_sweep (ping_sent now key address udp tcp hash) n = n
count_sweep (sweep now) n = suc n
count_sweep (closest target room) n = n
count_sweep (unclocked c) n = n

module _ (e : Env) where
  -- the call that next takes X's entry, and how many sweeps, counted from n, came before it: no sweep is ever left out, so the
  -- same number is the same sweep
  abbrev pub entry_lost_at : Bytes → Table → ℕ → List Call → Option (ℕ × Call)
  entry_lost_at X s n [] = none
  entry_lost_at X s n (c ∷ cs) =
      cond (empty (entry_of e X (next e s c))) (some (n, c)) (entry_lost_at X (next e s c) (count_sweep c n) cs)

  -- ---- the sentences of the demand, after a run r, where the call c comes next

  -- "A seated node loses its seat exactly when an accepted sweep comes more than 500 ms after a ping recorded for it, with no
  -- accepted pong from it since."
  abbrev pub LosesEntry : Run e → Call → Type 0
  LosesEntry r c =
      (X : Bytes) → HasEntry e X r.table
      → (HasEntry e X (next e r.table c) → ⊥)
      ↔ ((t : ℕ) × AcceptedSweep e r.table c t × ((t₀ : ℕ) × OpenPing e X t₀ r.log × (t₀ + 500 < t)))

  -- "While box clock readings don't fall from its seating on, nothing that another key signed, or none, unseats it: leave out any
  -- such datagrams after its seating, every other call the same, and the same sweep unseats it next, or again none does." The run r
  -- ends with its seating, or later while it has that entry.
  abbrev pub Isolated : Run e → List Call → Type 0
  Isolated r later =
      (X : Bytes) → HasEntry e X r.table → NotFalling r.table.clock later
      → (fewer : List Call) → LeftOut X later fewer
      → entry_lost_at X r.table 0 later ≡ entry_lost_at X r.table 0 fewer

  -- Against "pinging a held node where its last packet came from, so that one replayed packet from elsewhere unseats a live node":
  -- where X is held, seated or waiting, before a call and after it, its endpoint (address, UDP port, TCP port) is the same.
  abbrev pub KeepsEndpoint : Run e → Call → Type 0
  KeepsEndpoint r c =
      (X : Bytes)
      → All (λ p. All (λ q. q.endpoint ≡ p.endpoint) (held X (bucket_of e (next e r.table c) X))) (held X (bucket_of e r.table X))

  -- "No bucket ever has more than 16 seats or 4 waiting places taken, and no node stands in it twice." And "keys .. in their own
  -- bucket": every node in it is one that `HasEntry` and `IsReplacement` find there.
  abbrev pub Bounded : Table → Type 0
  Bounded s =
      (i : ℕ)
      → (length (bucket_at e s i).entries ≤ 16)
      × (length (bucket_at e s i).replacements ≤ 4)
      × ((X : Bytes) → length (of_key X (bucket_at e s i).entries) + length (of_key X (bucket_at e s i).replacements) ≤ 1)
      × All (λ p. OwnBucket e i p.key) (bucket_at e s i).entries
      × All (λ p. OwnBucket e i p.key) (bucket_at e s i).replacements

  -- "Of the seats of a bucket at most two may have 4-byte addresses with the same first three bytes" (C-16)
  abbrev pub RangesBounded : Table → Type 0
  RangesBounded s = (i : ℕ) (a : Endpoint) → range_count a (bucket_at e s i).entries ≤ max_of_range

  -- "A proved waiting node leaves the line only at a sweep."
  abbrev pub LeavesReplacements : Run e → Call → Type 0
  LeavesReplacements r c =
      (X : Bytes) → ProvedReplacement e X r → (IsReplacement e X (next e r.table c) → ⊥) → (t : ℕ) × AcceptedSweep e r.table c t

  -- the call is an accepted sweep "that keeps it and, after its removals and the seating of every proved one ahead of it that the sweep
  -- doesn't pass over, has a free seat and, for a 4-byte address, fewer than two seats of its range" (of a 16-byte address none is counted)
  abbrev pub HasRoomFor : Bytes → Run e → Call → Type 0
  HasRoomFor X r c =
      (t : ℕ) × AcceptedSweep e r.table c t
      × (0 < length (of_key X (kept_replacements e t r.table X)))
      × SeatFor X (taken_ahead e t r X) (kept_replacements e t r.table X)

  -- "in each stay in line, from the pong that left it there proved, it is seated at the first accepted sweep that [has room for it], and not
  -- sooner" (document 02, C-16): at each call ..
  abbrev pub TakesEntry : Run e → Call → Type 0
  TakesEntry r c = (X : Bytes) → ProvedReplacement e X r → HasEntry e X (next e r.table c) ↔ HasRoomFor X r c

  -- How a node comes to be seated, by the rules: with its pong "a waiting node takes a free seat", but "isn't seated while its range has two
  -- seats" (C-16), and a sweep seats "proved waiting nodes in line order .. while seats are free". A node without an entry has one after the
  -- call exactly if it waits, the call is an accepted pong from it, and there is a seat for it, or it is a proved replacement and the call
  -- has room for it.
  abbrev pub ComesToEntry : Run e → Call → Type 0
  ComesToEntry r c =
      (X : Bytes) → (HasEntry e X r.table → ⊥)
      → HasEntry e X (next e r.table c)
      ↔ ((IsReplacement e X r.table × (pong_from e X r.table c ≡ true)
      × SeatFor X (bucket_of e r.table X).entries (bucket_of e r.table X).replacements)
      ⊎ (ProvedReplacement e X r × HasRoomFor X r c))

  -- the call is an accepted sweep that does not keep X
  abbrev pub Drops : Bytes → Run e → Call → Type 0
  Drops X r c = (t : ℕ) × AcceptedSweep e r.table c t × (length (of_key X (kept_replacements e t r.table X)) ≡ 0)

  -- .. and over the calls of the rest of its stay: it takes an entry at the first call that has room for it, and not sooner, unless
  -- a sweep drops it before
  abbrev pub InTurn : Bytes → Run e → List Call → Type 0
  InTurn X r [] = Unit {0}
  InTurn X r (c ∷ later) =
      (HasRoomFor X r c × HasEntry e X (next e r.table c))
      ⊎ ((HasRoomFor X r c → ⊥)
      × (HasEntry e X (next e r.table c) → ⊥)
      × (Drops X r c ⊎ (ProvedReplacement e X (advance e r c) × InTurn X (advance e r c) later)))

  -- ---- what ties a stay, proved and ahead to the table

  -- a node comes into a line by the ping that begins its stay, and only so
  abbrev pub StayBegins : Run e → Call → Type 0
  StayBegins r c =
      (X : Bytes) → (IsReplacement e X r.table → ⊥)
      → IsReplacement e X (next e r.table c) ↔ (begins e X r.table c ≡ true)

  -- and while it stands in a line, it is in that stay
  abbrev pub StayLasts : Run e → Type 0
  StayLasts r = (X : Bytes) → IsReplacement e X r.table → InStay e X r.log

  -- the proofs in a line are those of its nodes' stays
  abbrev pub ProvedByPong : Run e → Type 0
  ProvedByPong r = (i : ℕ) → All (λ p. is_proved p.proof ≡ proved e r.log p.key) (bucket_at e r.table i).replacements

  -- a line is in the order in which its nodes' stays began
  abbrev pub InOrder : Run e → Type 0
  InOrder r = (i : ℕ) → Rising (λ p q. began e r.log p.key < began e r.log q.key) (bucket_at e r.table i).replacements

  -- "Head is the seat put at the tail longest ago": from the head on, a bucket's entries are in the order in which each was last put at
  -- the tail, those that one sweep seated "in line order"
  abbrev pub EntriesInOrder : Run e → Type 0
  EntriesInOrder r = (i : ℕ) → Rising (λ p q. TailedBefore e r.log p.key q.key) (bucket_at e r.table i).entries

  -- Demand 3 of a whole list of calls: at each place of the list, `earlier` came before it. A node is isolated over every stretch
  -- `later` in which readings don't fall, whatever comes after it.
  pub record Demand3 (calls : List Call) : Type 0 where
    pub loses-entry : (earlier later : List Call) (c : Call) → calls ≡ earlier ++ c ∷ later → LosesEntry (run e earlier) c
    pub isolated : (earlier later rest : List Call) → calls ≡ earlier ++ later ++ rest → Isolated (run e earlier) later
    pub keeps_endpoint : (earlier later : List Call) (c : Call) → calls ≡ earlier ++ c ∷ later → KeepsEndpoint (run e earlier) c
    pub bounded : (earlier later : List Call) → calls ≡ earlier ++ later → Bounded (run e earlier).table
    pub ranges_bounded : (earlier later : List Call) → calls ≡ earlier ++ later → RangesBounded (run e earlier).table
    pub leaves-replacements : (earlier later : List Call) (c : Call) → calls ≡ earlier ++ c ∷ later → LeavesReplacements (run e earlier) c
    pub takes-entry : (earlier later : List Call) (c : Call) → calls ≡ earlier ++ c ∷ later → TakesEntry (run e earlier) c
    pub comes-to-entry : (earlier later : List Call) (c : Call) → calls ≡ earlier ++ c ∷ later → ComesToEntry (run e earlier) c
    pub in_turn : (earlier later : List Call) → calls ≡ earlier ++ later
        → (X : Bytes) → ProvedReplacement e X (run e earlier) → InTurn X (run e earlier) later
    pub stay_begins : (earlier later : List Call) (c : Call) → calls ≡ earlier ++ c ∷ later → StayBegins (run e earlier) c
    pub stay_lasts : (earlier later : List Call) → calls ≡ earlier ++ later → StayLasts (run e earlier)
    pub proved_by_pong : (earlier later : List Call) → calls ≡ earlier ++ later → ProvedByPong (run e earlier)
    pub in_order : (earlier later : List Call) → calls ≡ earlier ++ later → InOrder (run e earlier)
    pub entries-in-order : (earlier later : List Call) → calls ≡ earlier ++ later → EntriesInOrder (run e earlier)
