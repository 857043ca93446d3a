-- Worked examples of the rules, each by computation, with a stand-in for Keccak-256 and readings named by a datagram's first byte.
use Prim.Native.Nat.{ℕ, ◌+◌}
use mathlib.Core.Path.{◌≡◌, refl}
use mathlib.Core.List.{List, [], ◌∷◌, ◌++◌, map, flat_map}
use lib.Count.{count_leading_zeros}
use lib.ListN.{get_or, replicate}
use Rattle.octets.specs.Octets.{Bytes, part, number_from, number, big_endian, same_bytes}
use Rattle.entry.specs.declared.Entry.{Entry}
use Rattle.entry.specs.declared.EndpointProof.TheVariants.{At}
use Rattle.entry.specs.declared.PingState.TheVariants.{Quiet}
use Rattle.bucket_model.specs.Rules.{ping_timeout, millis, endpoint_of, range_count, may_take, on_ping_sent, on_pong, on_heard, on_sweep}
use Rattle.distance.specs.Distance.{distance, bit_length}
use Rattle.call_history.specs.Model.{Env, Reading, refused, wrong_length, ping, pong, Call, datagram, ping_sent, sweep, bucket_number, datagram_refusals, ping_sent_refusals, fresh, bucket_of, answers, run}
use Rattle.call_history.specs.Words.{tailed}

abbrev read_first : Bytes → ℕ → Reading
read_first [] unix = refused wrong_length
read_first (b ∷ []) unix = ping
read_first (b ∷ c ∷ s) unix = pong (c ∷ s)

abbrev toy : Env
toy =
    record {
      hash = λ s. big_endian 32 (number s);
      read = read_first;
      own = replicate 32 0;
      kept = 16;
    }

abbrev hash : Bytes
hash = replicate 32 7

-- keys of bucket 255
abbrev key : ℕ → Bytes
key n = replicate 32 1 ++ (128 ∷ n ∷ replicate 30 0)

-- each node in a range of its own
abbrev address : ℕ → Bytes
address n = 192 ∷ 0 ∷ n ∷ 7 ∷ []

abbrev ping_to : ℕ → ℕ → Call
ping_to n t = ping_sent t (key n) (address n) 30303 30303 hash

abbrev pong_from : ℕ → ℕ → Call
pong_from n t = datagram t 0 (address n) 30303 (key n) (2 ∷ hash)

-- a ping packet
abbrev packet_from : ℕ → ℕ → Call
packet_from n t = datagram t 0 (address n) 30303 (key n) (1 ∷ [])

abbrev entries_after : List Call → List Entry
entries_after cs = (bucket_of toy (run toy cs).table (key 0)).entries

-- a node pinged at 100 that answered at 250
pub answered : entries_after (ping_to 0 100 ∷ pong_from 0 250 ∷ [])
    ≡ record {
      key = key 0;
      endpoint = endpoint_of (address 0) 30303 30303;
      seen = millis 250;
      proof = At (millis 250);
      ping = Quiet;
      hash = hash;
    }
    ∷ []
unfolding bucket_number distance bit_length count_leading_zeros number_from big_endian same_bytes datagram_refusals ping_sent_refusals on_ping_sent on_pong may_take range_count part
answered = refl

-- a pong at the timeout is in time, a millisecond after it late
pub pong_in_time : answers toy (fresh toy) (ping_to 0 100 ∷ pong_from 0 (100 + ping_timeout) ∷ []) ≡ 0 ∷ 0 ∷ []
unfolding bucket_number distance bit_length count_leading_zeros number_from big_endian same_bytes datagram_refusals ping_sent_refusals on_ping_sent on_pong may_take range_count part
pong_in_time = refl

pub pong_late : answers toy (fresh toy) (ping_to 0 100 ∷ pong_from 0 (101 + ping_timeout) ∷ []) ≡ 0 ∷ 15 ∷ []
unfolding bucket_number distance bit_length count_leading_zeros number_from big_endian same_bytes datagram_refusals ping_sent_refusals on_ping_sent on_pong may_take range_count part
pong_late = refl

-- a second ping while one is out, a clock that falls, a fifth replacement, a pong that nobody awaits
pub refusals : answers toy (fresh toy)
    (ping_to 0 100 ∷ ping_to 0 100 ∷ ping_to 1 99 ∷ ping_to 1 100 ∷ ping_to 2 100 ∷ ping_to 3 100 ∷ ping_to 4 100 ∷ pong_from 5 100 ∷ [])
    ≡ 0 ∷ 17 ∷ 2 ∷ 0 ∷ 0 ∷ 0 ∷ 18 ∷ 14 ∷ []
unfolding bucket_number distance bit_length count_leading_zeros number_from big_endian same_bytes datagram_refusals ping_sent_refusals on_ping_sent on_pong may_take range_count part
refusals = refl

-- the keys' second bytes
abbrev names : List Entry → List ℕ
names = map (λ p. get_or p.key 33 0)

-- a sweep at an open ping's timeout keeps the entry, a millisecond after it takes it
pub kept_at_the_timeout : names (entries_after (ping_to 0 100 ∷ pong_from 0 250 ∷ ping_to 0 1000 ∷ sweep (1000 + ping_timeout) ∷ [])) ≡ 0 ∷ []
unfolding bucket_number distance bit_length count_leading_zeros number_from big_endian same_bytes datagram_refusals ping_sent_refusals on_ping_sent on_pong may_take range_count part on_sweep
kept_at_the_timeout = refl

pub taken_after_the_timeout : names (entries_after (ping_to 0 100 ∷ pong_from 0 250 ∷ ping_to 0 1000 ∷ sweep (1001 + ping_timeout) ∷ [])) ≡ []
unfolding bucket_number distance bit_length count_leading_zeros number_from big_endian same_bytes datagram_refusals ping_sent_refusals on_ping_sent on_pong may_take range_count part on_sweep
taken_after_the_timeout = refl

-- why the readings must not fall: a stranger's packet with a later reading has the node's own pong refused, and the sweep takes it
pub clock_ahead : answers toy (fresh toy) (ping_to 0 100 ∷ pong_from 0 250 ∷ ping_to 0 1000 ∷ packet_from 9 5000 ∷ pong_from 0 1200 ∷ sweep 6000 ∷ [])
    ≡ 0 ∷ 0 ∷ 0 ∷ 0 ∷ 2 ∷ 0 ∷ []
unfolding bucket_number distance bit_length count_leading_zeros number_from big_endian same_bytes datagram_refusals ping_sent_refusals on_ping_sent on_pong may_take range_count part on_sweep
clock_ahead = refl

-- the node's packet replayed from elsewhere is accepted and moves nothing: a ping to there is refused, one to its endpoint is not
pub replayed : answers toy (fresh toy)
    (ping_to 0 100
    ∷ pong_from 0 250
    ∷ datagram 300 0 (10 ∷ 0 ∷ 0 ∷ 1 ∷ []) 666 (key 0) (1 ∷ [])
    ∷ ping_sent 400 (key 0) (10 ∷ 0 ∷ 0 ∷ 1 ∷ []) 666 666 hash
    ∷ ping_to 0 400
    ∷ [])
    ≡ 0 ∷ 0 ∷ 0 ∷ 16 ∷ 0 ∷ []
unfolding bucket_number distance bit_length count_leading_zeros number_from big_endian same_bytes datagram_refusals ping_sent_refusals on_ping_sent on_pong may_take range_count part on_heard
replayed = refl

-- eighteen nodes pinged and answered at 0: the last two wait
abbrev eighteen : List Call
eighteen = flat_map (λ n. ping_to n 0 ∷ pong_from n 0 ∷ []) (0 ∷ 1 ∷ 2 ∷ 3 ∷ 4 ∷ 5 ∷ 6 ∷ 7 ∷ 8 ∷ 9 ∷ 10 ∷ 11 ∷ 12 ∷ 13 ∷ 14 ∷ 15 ∷ 16 ∷ 17 ∷ [])

-- node 0 doesn't answer its ping: its entry goes to the first in line, although the second was seen since
pub in_turn : names (entries_after (eighteen ++ (packet_from 17 10 ∷ ping_to 0 100 ∷ sweep (101 + ping_timeout) ∷ [])))
    ≡ 1 ∷ 2 ∷ 3 ∷ 4 ∷ 5 ∷ 6 ∷ 7 ∷ 8 ∷ 9 ∷ 10 ∷ 11 ∷ 12 ∷ 13 ∷ 14 ∷ 15 ∷ 16 ∷ []
unfolding bucket_number distance bit_length count_leading_zeros number_from big_endian same_bytes datagram_refusals ping_sent_refusals on_ping_sent on_pong may_take range_count part on_heard on_sweep flat_map
in_turn = refl

-- two nodes, the first heard again: the fifth call puts it behind the second, which the fourth seated
abbrev heard_again : List Call
heard_again = ping_to 0 100 ∷ pong_from 0 110 ∷ ping_to 1 120 ∷ pong_from 1 130 ∷ packet_from 0 140 ∷ []

pub to_the_tail : names (entries_after heard_again) ≡ 1 ∷ 0 ∷ []
unfolding bucket_number distance bit_length count_leading_zeros number_from big_endian same_bytes datagram_refusals ping_sent_refusals on_ping_sent on_pong may_take range_count part on_heard
to_the_tail = refl

pub last_tailed : map (tailed toy (run toy heard_again).log) (key 1 ∷ key 0 ∷ []) ≡ 4 ∷ 5 ∷ []
unfolding bucket_number distance bit_length count_leading_zeros number_from big_endian same_bytes datagram_refusals ping_sent_refusals on_ping_sent on_pong may_take range_count part on_heard
last_tailed = refl

-- nodes 0 and 1 don't answer their pings: one sweep, the 39th call, seats both in line
abbrev one_sweep : List Call
one_sweep = eighteen ++ (ping_to 0 100 ∷ ping_to 1 100 ∷ sweep (101 + ping_timeout) ∷ [])

pub swept_together : map (tailed toy (run toy one_sweep).log) (key 16 ∷ key 17 ∷ []) ≡ 39 ∷ 39 ∷ []
unfolding bucket_number distance bit_length count_leading_zeros number_from big_endian same_bytes datagram_refusals ping_sent_refusals on_ping_sent on_pong may_take range_count part on_heard on_sweep flat_map
swept_together = refl

-- three nodes of one range and one of another, in a bucket with free entries: the third waits, and the fourth, behind it, does not; the third
-- takes an entry at the sweep that removes the first
abbrev near : ℕ → ℕ → Call
near n t = ping_sent t (key n) (192 ∷ 0 ∷ 2 ∷ n ∷ []) 30303 30303 hash

abbrev near_pong : ℕ → ℕ → Call
near_pong n t = datagram t 0 (192 ∷ 0 ∷ 2 ∷ n ∷ []) 30303 (key n) (2 ∷ hash)

abbrev rack : List Call
rack = near 0 0 ∷ near_pong 0 0 ∷ near 1 0 ∷ near_pong 1 0 ∷ near 2 0 ∷ near_pong 2 0 ∷ ping_to 3 0 ∷ pong_from 3 0 ∷ []

pub range_of_two : names (entries_after (rack ++ (sweep 10 ∷ []))) ≡ 0 ∷ 1 ∷ 3 ∷ []
unfolding bucket_number distance bit_length count_leading_zeros number_from big_endian same_bytes datagram_refusals ping_sent_refusals on_ping_sent on_pong may_take range_count part on_sweep
range_of_two = refl

pub range_freed : names (entries_after (rack ++ (near 0 100 ∷ sweep (101 + ping_timeout) ∷ []))) ≡ 1 ∷ 3 ∷ 2 ∷ []
unfolding bucket_number distance bit_length count_leading_zeros number_from big_endian same_bytes datagram_refusals ping_sent_refusals on_ping_sent on_pong may_take range_count part on_sweep
range_freed = refl
