-- Left and right in any order (document 02, C-19): the public calls, on "a table reached by any run from fresh" and any counters. Each step is by
-- the definitions that the calls' contracts cite.
use Rattle.std.specs.Prelude.{ℕ, ◌<◌, ◌^◌, ◌≡◌, List, map}
use Rattle.octets.specs.Octets.{Bytes}
use Rattle.lists.specs.Lists.{All}
use Rattle.keccak.specs.Sponge.{keccak256}
use Rattle.node.specs.declared.Node.{Node}
use Rattle.table.specs.Init.{init_answer, init_table}
use Rattle.call_history.specs.Model.{Env, Call, datagram, ping_sent, sweep, closest, unclocked}
use Rattle.call_history.specs.Keccak.{with_keccak}
use Rattle.call_history.specs.Chain.{IsCall}
use Rattle.call_history.specs.Demand3.{clock_reading}
use Rattle.call_model.specs.Reading.{reading}
use Rattle.call_answer.specs.declared.Received.{Received}
use Rattle.call_answer.specs.Answer.{refusal, number_of}
use Rattle.call_datagram.specs.Received.{received}
use Rattle.call_low.specs.Got.{received_low}
use Rattle.call_order.specs.Order.{Apart, InStretch, Merges, answered, EitherWay, EndAlike}
use Rattle.closest_nodes.specs.declared.Listed.{Listed}
use Rattle.closest_nodes.specs.Listing.{listed, nodes_for}
use Rattle.counters.specs.declared.Counters.{Counters}
use Rattle.discv4.specs.Library.{answer_number, table_after, counters_after, low_number, PublicCall, low, table_left, counters_left, all_made, all_told, table_left_all, counters_left_all, IsPublicCall}

-- all that a call is told: of a datagram the whole answer, of a ping-sent or a sweep its number, of a closest call its number, its count and the
-- nodes that the list receives
pub data Told : Type 0 where
  packet : Received → Told
  number : ℕ → Told
  list : Listed → List Node → Told

abbrev pub number_in : Told → ℕ
number_in (packet r) = number_of r
number_in (number n) = n
number_in (list l nodes) = l.number

-- the table's bytes and the tally
pub record State : Type 0 where
  pub table : Bytes
  pub counters : Counters

-- "A refusal returns its number alone": of a call whose reading gave no clock
abbrev pub told_back : Call → ℕ → Told
told_back (datagram now unix address udp key bytes) n = packet (refusal n)
told_back (ping_sent now key address udp tcp hash) n = number n
told_back (sweep now) n = number n
told_back (closest target room) n = number n
told_back (unclocked c) n = told_back c n

abbrev pub told : State → Call → Told
told x (datagram now unix address udp key bytes) = packet (received x.table now unix address udp key bytes)
told x (ping_sent now key address udp tcp hash) = number (answer_number x.table (ping_sent now key address udp tcp hash))
told x (sweep now) = number (answer_number x.table (sweep now))
told x (closest target room) = list (listed x.table target room) (nodes_for x.table target room)
told x (unclocked c) = told_back c (answer_number x.table (unclocked c))

abbrev pub left : State → Call → State
left x c = record { table = table_after x.table c; counters = counters_after x.counters x.table c }

-- the same at readings of 32 bits (C-20), written as a call's milliseconds
abbrev pub IsLow : Call → Type 0
IsLow c = IsCall c × (clock_reading 0 c < 2 ^ 32)

-- by the contracts of `datagram_low`, `ping_sent_low` and `sweep_low`; a closest call takes no clock
abbrev pub told_low : State → Call → Told
told_low x (datagram r unix address udp key bytes) = packet (received_low x.table r unix address udp key bytes)
told_low x (ping_sent r key address udp tcp hash) = number (low_number x.table (ping_sent r key address udp tcp hash))
told_low x (sweep r) = number (low_number x.table (sweep r))
told_low x (closest target room) = told x (closest target room)
told_low x (unclocked c) = told x (unclocked c)

abbrev pub left_low : State → Call → State
left_low x c = record { table = table_left x.table (low c); counters = counters_left x.counters x.table (low c) }

-- the same of public calls
abbrev pub left_all : State → List PublicCall → State
left_all x calls = record { table = table_left_all x.table calls; counters = counters_left_all x.counters x.table calls }

pub record OrderKeeps (e : Env) (x : State) : Type 0 where
  -- "two calls, each a datagram or a ping-sent, at the same box millisecond, with keys that fall in different kept buckets"
  pub either : (t : ℕ) (c d : Call) → IsCall c → IsCall d → InStretch e t c → InStretch e t d → Apart e c d → EitherWay told left x c d
  -- two lists whose calls, each datagram of a burst its own, and at the clocks that they got, are merges: they "end alike", and their calls are
  -- told the same
  pub merges : (ps qs : List PublicCall) → All IsPublicCall ps → All IsPublicCall qs → Merges e (all_made x.table ps) (all_made x.table qs)
      → (left_all x ps ≡ left_all x qs) × EndAlike told left e x (all_made x.table ps) (all_made x.table qs)
  -- where what a list tells, a burst too, is the numbers of its calls
  pub numbers : (ps : List PublicCall) → all_told x.table ps ≡ map (λ v. number_in v.1) (answered told left x (all_made x.table ps))
  -- both at readings of 32 bits, those that are refused too: two calls at the same reading, and two lists that are merges by their readings
  pub low_either : (r : ℕ) (c d : Call) → IsLow c → IsLow d → InStretch e r c → InStretch e r d → Apart e c d → EitherWay told_low left_low x c d
  pub low_merges : (cs ds : List Call) → All IsLow cs → All IsLow ds → Merges e cs ds → EndAlike told_low left_low e x cs ds

-- for every memory, own key and bucket count that `init` accepts, every list of public calls from there, and any counters
abbrev pub LeftAndRight : Type 0
LeftAndRight =
    (memory key : Bytes) (count : ℕ) → init_answer memory key count ≡ 0 → (run : List PublicCall) → All IsPublicCall run → (k : Counters)
    → OrderKeeps (with_keccak reading (keccak256 key) count) (record { table = table_left_all (init_table memory key count) run; counters = k })
