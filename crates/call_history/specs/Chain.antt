-- Calls on a table in memory, each of which gets the bytes that the last one left, and what it means that they follow the rules.
use Rattle.std.specs.Prelude.{ℕ, ◌<◌, ◌^◌, ◌≡◌, List, [], ◌∷◌}
use Rattle.octets.specs.Octets.{Bytes, Slice}
use Rattle.call_history.specs.Model.{Env, Call, datagram, ping_sent, sweep, closest, unclocked, Table, fresh, answers, run}
use Rattle.call_history.specs.Demand3.{Demand3}

-- the arguments of a call are values of their types: times of 64 bits, ports of 16, slices that memory can have
abbrev pub IsCall : Call → Type 0
IsCall (datagram now unix address udp key bytes) =
    (now < 2 ^ 64) × (unix < 2 ^ 64) × Slice address × (udp < 2 ^ 16) × Slice key × Slice bytes
IsCall (ping_sent now key address udp tcp hash) =
    (now < 2 ^ 64) × Slice key × Slice address × (udp < 2 ^ 16) × (tcp < 2 ^ 16) × Slice hash
IsCall (sweep now) = now < 2 ^ 64
IsCall (closest target room) = Slice target × (room < 2 ^ 63)
IsCall (unclocked c) = IsCall c

-- the answer number that a call gives on bytes, and the bytes that it leaves
module _ (answer_on : Bytes → Call → ℕ) (bytes_after : Bytes → Call → Bytes) where
  -- the answer numbers of a list of calls, and the bytes after it
  abbrev pub answers_on : Bytes → List Call → List ℕ
  answers_on s [] = []
  answers_on s (c ∷ cs) = answer_on s c ∷ answers_on (bytes_after s c) cs

  abbrev pub bytes_after_all : Bytes → List Call → Bytes
  bytes_after_all s [] = s
  bytes_after_all s (c ∷ cs) = bytes_after_all (bytes_after s c) cs

  -- "each call's answer number is theirs, and the table's bytes after the list are the one form of what they give", where `encode`
  -- gives a table's one form
  pub record FollowsRules (e : Env) (encode : Table → Bytes) (calls : List Call) : Type 0 where
    pub numbers : answers_on (encode (fresh e)) calls ≡ answers e (fresh e) calls
    pub bytes : bytes_after_all (encode (fresh e)) calls ≡ encode (run e calls).table

  -- Demand 3 of a list of calls on bytes, as one claim
  pub record Demand3OnBytes (e : Env) (encode : Table → Bytes) (calls : List Call) : Type 0 where
    pub follows : FollowsRules e encode calls
    pub demand : Demand3 e calls
