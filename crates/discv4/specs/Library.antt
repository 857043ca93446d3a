-- The one claim about the public calls (demand 3): every list of them, from what `init` writes and from cleared counters. Each step is by
-- the definitions that the calls' contracts cite.
use Rattle.std.specs.Prelude.{ℕ, ◌<◌, ◌≡◌, Bool, true, false, cond, List, [], ◌∷◌, ◌++◌}
use Rattle.octets.specs.Octets.{Bytes}
use Rattle.lists.specs.Lists.{All}
use Rattle.keccak.specs.Sponge.{keccak256}
use Rattle.table_model.specs.Layout.{clock_of}
use Rattle.table.specs.Init.{init_answer, init_table}
use Rattle.call_history.specs.Model.{Env, Call, datagram, ping_sent, sweep, closest, unclocked, fresh, answers, run}
use Rattle.call_history.specs.Keccak.{with_keccak}
use Rattle.call_history.specs.Chain.{IsCall}
use Rattle.call_history.specs.Demand3.{Demand3}
use Rattle.call_model.specs.Calls.{answer_on, bytes_after}
use Rattle.call_model.specs.Reading.{reading}
use Rattle.call_model.specs.OverBytes.{encode}
use Rattle.call_answer.specs.Answer.{number_of}
use Rattle.call_datagram.specs.Received.{received}
use Rattle.counters.specs.declared.Counters.{Counters}
use Rattle.counters.specs.Counters.{raised, cleared, count_of}
use Rattle.counters.specs.History.{counted, times_of, capped}
use Rattle.closest_nodes.specs.Listing.{listed}
use Rattle.call_low.specs.Got.{got, answer_low, bytes_low, got_all, received_low}
use Rattle.call_burst_lists.specs.Lists.{Burst, IsBurst}
use Rattle.call_burst.specs.Burst.{calls_of, numbers_of, low_numbers_of, low_table_after}
use Rattle.call_burst.specs.Burst as bursts

-- the answer number of each call on a table's bytes
abbrev pub answer_number : Bytes → Call → ℕ
answer_number s (datagram now unix address udp key bytes) = number_of (received s now unix address udp key bytes)
answer_number s (ping_sent now key address udp tcp hash) = answer_on reading s (ping_sent now key address udp tcp hash)
answer_number s (sweep now) = answer_on reading s (sweep now)
answer_number s (closest target room) = (listed s target room).number
answer_number s (unclocked c) = answer_on reading s (unclocked c)

-- the table's bytes that it leaves; a closest call is lent them only to read
abbrev pub table_after : Bytes → Call → Bytes
table_after s (datagram now unix address udp key bytes) = bytes_after reading s (datagram now unix address udp key bytes)
table_after s (ping_sent now key address udp tcp hash) = bytes_after reading s (ping_sent now key address udp tcp hash)
table_after s (sweep now) = bytes_after reading s (sweep now)
table_after s (closest target room) = s
table_after s (unclocked c) = bytes_after reading s (unclocked c)

-- the tally is "raised by datagram, ping-sent and sweep calls"
abbrev pub is_counted : Call → Bool
is_counted (datagram now unix address udp key bytes) = true
is_counted (ping_sent now key address udp tcp hash) = true
is_counted (sweep now) = true
is_counted (closest target room) = false
is_counted (unclocked c) = is_counted c

abbrev pub counters_after : Counters → Bytes → Call → Counters
counters_after k s c = cond (is_counted c) (raised k (answer_number s c)) k

-- the answer numbers of the counted calls of a list
abbrev pub counted_answers : Bytes → List Call → List ℕ
counted_answers s [] = []
counted_answers s (c ∷ cs) = cond (is_counted c) (answer_number s c ∷ counted_answers (table_after s c) cs) (counted_answers (table_after s c) cs)

-- ---- with a reading of 32 bits for milliseconds (C-20)

-- the answer number of each call
abbrev pub low_number : Bytes → Call → ℕ
low_number s (datagram r unix address udp key bytes) = number_of (received_low s r unix address udp key bytes)
low_number s (ping_sent r key address udp tcp hash) = answer_low s (ping_sent r key address udp tcp hash)
low_number s (sweep r) = answer_low s (sweep r)
low_number s (closest target room) = answer_number s (closest target room)
low_number s (unclocked c) = answer_number s (unclocked c)

-- ---- the public calls: one of those above, or a burst with the length of the lent list of numbers; each with full milliseconds, or with readings

pub data PublicCall : Type 0 where
  single : Call → PublicCall
  burst : Burst → ℕ → PublicCall
  low : Call → PublicCall
  low_burst : Burst → ℕ → PublicCall

-- the calls that a public call counts as, on a table's bytes: "Demand 3 counts each datagram as its own call, and none of a burst refused with
-- 28"; and it "is read over the widened clock as each call got it"
abbrev pub calls_made : Bytes → PublicCall → List Call
calls_made s (single c) = c ∷ []
calls_made s (burst b room) = calls_of b room
calls_made s (low c) = got (clock_of s) c ∷ []
calls_made s (low_burst b room) = got_all s (calls_of b room)

-- the numbers that it tells, a burst in its list; the table's bytes and the counters that it leaves
abbrev pub numbers_told : Bytes → PublicCall → List ℕ
numbers_told s (single c) = answer_number s c ∷ []
numbers_told s (burst b room) = numbers_of s b room
numbers_told s (low c) = low_number s c ∷ []
numbers_told s (low_burst b room) = low_numbers_of s b room

abbrev pub table_left : Bytes → PublicCall → Bytes
table_left s (single c) = table_after s c
table_left s (burst b room) = bursts.table_after s b room
table_left s (low c) = bytes_low s c
table_left s (low_burst b room) = low_table_after s b room

abbrev pub counters_left : Counters → Bytes → PublicCall → Counters
counters_left k s (single c) = counters_after k s c
counters_left k s (burst b room) = counted k (numbers_of s b room)
counters_left k s (low c) = cond (is_counted c) (raised k (low_number s c)) k
counters_left k s (low_burst b room) = counted k (low_numbers_of s b room)

-- the same of a list of public calls; the calls of each as it got its clocks
abbrev pub all_made : Bytes → List PublicCall → List Call
all_made s [] = []
all_made s (p ∷ ps) = calls_made s p ++ all_made (table_left s p) ps

abbrev pub all_told : Bytes → List PublicCall → List ℕ
all_told s [] = []
all_told s (p ∷ ps) = numbers_told s p ++ all_told (table_left s p) ps

abbrev pub table_left_all : Bytes → List PublicCall → Bytes
table_left_all s [] = s
table_left_all s (p ∷ ps) = table_left_all (table_left s p) ps

abbrev pub counters_left_all : Counters → Bytes → List PublicCall → Counters
counters_left_all k s [] = k
counters_left_all k s (p ∷ ps) = counters_left_all (counters_left k s p) (table_left s p) ps

-- its arguments are values of their types; a reading of 32 bits is a number of 64
abbrev pub IsPublicCall : PublicCall → Type 0
IsPublicCall (single c) = IsCall c
IsPublicCall (burst b room) = IsBurst b
IsPublicCall (low c) = IsCall c
IsPublicCall (low_burst b room) = IsBurst b

-- "After any run since clearing, a count is the number of such calls with that answer, or 4,294,967,295 if more.": the counters are cleared
-- where the table is `s`, and then the calls are made
abbrev pub CountsAfter : Bytes → List PublicCall → Type 0
CountsAfter s calls = (n : ℕ) → n < 22 → count_of (counters_left_all cleared s calls) n ≡ capped (times_of n (counted_answers s (all_made s calls)))

-- of any bytes, sound or not, and every list of calls
abbrev pub CountsKept : Type 0
CountsKept = (s : Bytes) (calls : List PublicCall) → CountsAfter s calls

-- a list of public calls on a table `s`, where `e` is the rules for its own hash and bucket count
pub record RunKeeps (e : Env) (s : Bytes) (calls : List PublicCall) : Type 0 where
  -- "each call's answer number is theirs"
  pub numbers : all_told s calls ≡ answers e (fresh e) (all_made s calls)
  -- "the table's bytes after the list are the one form of what they give"
  pub bytes : table_left_all s calls ≡ encode e.own (run e (all_made s calls)).table
  -- the sentences of demand 3, of the rules' table and answers
  pub demand : Demand3 e (all_made s calls)
  -- the counters, cleared where the table is fresh
  pub counts : CountsAfter s calls

-- for every memory, own key and bucket count that `init` accepts, and every list of public calls
abbrev pub LibraryKeeps : Type 0
LibraryKeeps =
    (memory key : Bytes) (count : ℕ) → init_answer memory key count ≡ 0 → (calls : List PublicCall) → All IsPublicCall calls
    → RunKeeps (with_keccak reading (keccak256 key) count) (init_table memory key count) calls
