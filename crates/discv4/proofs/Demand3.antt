-- Demand 3 of the public calls: a burst is its datagrams, a call with a reading is the one that it got its clock as, their definitions are those of
-- crate `call_model`, of which it is proved, and the counters count their answers.
-- Assumes nothing.
use Prim.Native.Nat.{ℕ, zero, suc, ◌+◌}
use mathlib.Core.Path.{◌≡◌, refl, sym, ap, ap₂, ◌∙◌}
use mathlib.Core.Bool.{Bool, true, false, cond}
use mathlib.Core.List.{List, [], ◌∷◌, ◌++◌}
use lib.ListN.{length, get_or}
use Rattle.octets.specs.Octets.{Bytes}
use Rattle.lists.specs.Lists.{All}
use Rattle.lists.proofs.Laws.{by_test, All-append}
use Rattle.table_model.specs.Layout.{clock_of}
use Rattle.table.specs.Init.{fresh_table}
use Rattle.table.proofs.Fresh.{from-1, to-256, is-fresh}
use Rattle.call_history.specs.Model.{Call, datagram, ping_sent, sweep, closest, unclocked}
use Rattle.call_history.specs.Demand3.{clock_reading}
use Rattle.call_history.specs.Chain.{IsCall, answers_on, bytes_after_all}
use Rattle.call_model.specs.Calls.{answer_on, bytes_after}
use Rattle.call_model.specs.Reading.{reading}
use Rattle.call_model.proofs.Demand3.{demand3_of_calls}
use Rattle.call_model.proofs.AnyBytes.{on-any-bytes}
use Rattle.call_datagram.proofs.Answered.{answer-number}
use Rattle.counters.specs.declared.Counters.{Counters}
use Rattle.counters.specs.Counters.{raised, cleared, count_of}
use Rattle.counters.specs.History.{counted}
use Rattle.counters.proofs.History.{counts_are_history}
use Rattle.std.specs.Prelude.{Option, Some, None}
use Rattle.node.specs.declared.MonotonicMillis.{MonotonicMillis}
use Rattle.clock32.specs.Widened.{widened}
use Rattle.call_low.specs.Got.{has_clock, clocked, got, answer_low, bytes_low, got_all}
use Rattle.call_low.proofs.Front.{low-number}
use Rattle.call_low.proofs.Calls.{got_is, all_got, got_numbers, got_bytes}
use Rattle.call_burst_lists.specs.Lists.{Burst, is_whole}
use Rattle.call_burst.specs.Burst.{calls_from, calls_of}
use Rattle.call_burst.proofs.Made.{calls-made}
use Rattle.discv4.specs.Library.{answer_number, table_after, is_counted, counted_answers, low_number, PublicCall, single, burst, low, low_burst, calls_made, all_made, numbers_told, table_left, counters_left, all_told, table_left_all, counters_left_all, IsPublicCall, CountsKept, LibraryKeeps}

-- ---- the calls' definitions are those of crate call_model

pub number_same : (s : Bytes) (c : Call) → answer_number s c ≡ answer_on reading s c
number_same s (datagram now unix address udp key bytes) = answer-number s now (record { 0 = unix }) address udp key bytes
number_same s (ping_sent now key address udp tcp hash) = refl
number_same s (sweep now) = refl
number_same s (closest target room) = refl
number_same s (unclocked c) = refl

pub bytes_same : (s : Bytes) (c : Call) → table_after s c ≡ bytes_after reading s c
bytes_same s (datagram now unix address udp key bytes) = refl
bytes_same s (ping_sent now key address udp tcp hash) = refl
bytes_same s (sweep now) = refl
bytes_same s (closest target room) = sym ((on-any-bytes reading).closest-unchanged s target room)
bytes_same s (unclocked c) = refl

numbers_same : (s : Bytes) (cs : List Call) → answers_on answer_number table_after s cs ≡ answers_on (answer_on reading) (bytes_after reading) s cs
numbers_same s [] = refl
numbers_same s (c ∷ cs) = rw (number_same s c, bytes_same s c) (ap (λ (ns : List ℕ). answer_on reading s c ∷ ns) (numbers_same (bytes_after reading s c) cs))

all_bytes_same : (s : Bytes) (cs : List Call) → bytes_after_all answer_number table_after s cs ≡ bytes_after_all (answer_on reading) (bytes_after reading) s cs
all_bytes_same s [] = refl
all_bytes_same s (c ∷ cs) = rw (bytes_same s c) (all_bytes_same (bytes_after reading s c) cs)

-- ---- a burst is its datagrams, one call each

append_answers : (s : Bytes) (cs ds : List Call)
    → answers_on answer_number table_after s (cs ++ ds) ≡ answers_on answer_number table_after s cs ++ answers_on answer_number table_after (bytes_after_all answer_number table_after s cs) ds
append_answers s [] ds = refl
append_answers s (c ∷ cs) ds = ap (λ (ns : List ℕ). answer_number s c ∷ ns) (append_answers (table_after s c) cs ds)

append_bytes : (s : Bytes) (cs ds : List Call)
    → bytes_after_all answer_number table_after s (cs ++ ds) ≡ bytes_after_all answer_number table_after (bytes_after_all answer_number table_after s cs) ds
append_bytes s [] ds = refl
append_bytes s (c ∷ cs) ds = append_bytes (table_after s c) cs ds

pub low_number_is : (s : Bytes) (c : Call) → low_number s c ≡ answer_low s c
unfolding got
low_number_is s (datagram r unix address udp key bytes) = low-number s r unix address udp key bytes
low_number_is s (ping_sent r key address udp tcp hash) = refl
low_number_is s (sweep r) = refl
low_number_is s (closest target room) = refl
low_number_is s (unclocked c) = refl

left_is : (s : Bytes) (p : PublicCall) → table_left s p ≡ bytes_after_all answer_number table_after s (calls_made s p)
left_is s (single c) = refl
left_is s (burst b room) = sym (all_bytes_same s (calls_of b room))
left_is s (low c) = sym (bytes_same s (got (clock_of s) c))
left_is s (low_burst b room) = got_bytes s (calls_of b room) ∙ sym (all_bytes_same s (got_all s (calls_of b room)))

told_is : (s : Bytes) (p : PublicCall) → numbers_told s p ≡ answers_on answer_number table_after s (calls_made s p)
told_is s (single c) = refl
told_is s (burst b room) = sym (numbers_same s (calls_of b room))
told_is s (low c) = ap (λ (n : ℕ). n ∷ []) (low_number_is s c ∙ sym (number_same s (got (clock_of s) c)))
told_is s (low_burst b room) = got_numbers s (calls_of b room) ∙ sym (numbers_same s (got_all s (calls_of b room)))

pub all_left : (s : Bytes) (ps : List PublicCall) → table_left_all s ps ≡ bytes_after_all answer_number table_after s (all_made s ps)
all_left s [] = refl
all_left s (p ∷ ps) =
    let more : List Call = all_made (table_left s p) ps in
    all_left (table_left s p) ps
    ∙ ap (λ (t : Bytes). bytes_after_all answer_number table_after t more) (left_is s p)
    ∙ sym (append_bytes s (calls_made s p) more)

pub all_told_is : (s : Bytes) (ps : List PublicCall) → all_told s ps ≡ answers_on answer_number table_after s (all_made s ps)
all_told_is s [] = refl
all_told_is s (p ∷ ps) =
    let more : List Call = all_made (table_left s p) ps in
    ap₂ (λ (ms ns : List ℕ). ms ++ ns) (told_is s p)
    (all_told_is (table_left s p) ps ∙ ap (λ (t : Bytes). answers_on answer_number table_after t more) (left_is s p))
    ∙ sym (append_answers s (calls_made s p) more)

made_is : (s : Bytes) (p : PublicCall) → IsPublicCall p → All IsCall (calls_made s p)
made_is s (single c) h = (h, tt)
made_is s (burst b room) h = calls-made b h room
made_is s (low c) h = (got_is (clock_of s) c h, tt)
made_is s (low_burst b room) h = all_got s (calls_of b room) (calls-made b h room)

pub all_are : (s : Bytes) (ps : List PublicCall) → All IsPublicCall ps → All IsCall (all_made s ps)
all_are s [] h = tt
all_are s (p ∷ ps) h =
    All-append IsCall (calls_made s p) (all_made (table_left s p) ps) (made_is s p h.0) (all_are (table_left s p) ps h.1)

-- ---- the counters

counted-append : (k : Counters) (xs ys : List ℕ) → counted k (xs ++ ys) ≡ counted (counted k xs) ys
counted-append k [] ys = refl
counted-append k (x ∷ xs) ys = counted-append (raised k x) xs ys

append-counted : (s : Bytes) (cs ds : List Call)
    → counted_answers s (cs ++ ds) ≡ counted_answers s cs ++ counted_answers (bytes_after_all answer_number table_after s cs) ds
append-counted s [] ds = refl
append-counted s (c ∷ cs) ds =
    by_test (is_counted c)
    (λ h. rw h (ap (λ (ns : List ℕ). answer_number s c ∷ ns) (append-counted (table_after s c) cs ds)))
    (λ h. rw h (append-counted (table_after s c) cs ds))

-- as it got its clock, a call is counted as it would be
clocked-counted : (w : Option MonotonicMillis) (c : Call) → is_counted (clocked w c) ≡ is_counted c
clocked-counted (Some t) (datagram r unix address udp key bytes) = refl
clocked-counted (Some t) (ping_sent r key address udp tcp hash) = refl
clocked-counted (Some t) (sweep r) = refl
clocked-counted (Some t) (closest target room) = refl
clocked-counted (Some t) (unclocked c) = refl
clocked-counted None c = refl

pub got-counted : (clock : ℕ) (c : Call) → is_counted (got clock c) ≡ is_counted c
unfolding got
got-counted clock c = either (has_clock c)
  where
    either : (b : Bool) → is_counted (cond b (clocked (widened clock (clock_reading 0 c)) c) c) ≡ is_counted c
    either true = clocked-counted (widened clock (clock_reading 0 c)) c
    either false = refl

-- each datagram of a burst is counted
abbrev Counted : Call → Type 0
Counted c = is_counted c ≡ true

all_counted : (s : Bytes) (cs : List Call) → All Counted cs → counted_answers s cs ≡ answers_on answer_number table_after s cs
all_counted s [] h = refl
all_counted s (c ∷ cs) h = rw h.0 (ap (λ (ns : List ℕ). answer_number s c ∷ ns) (all_counted (table_after s c) cs h.1))

from_counted : (b : Burst) (i at n : ℕ) → All Counted (calls_from b i at n)
unfolding calls_from
from_counted b i at zero = tt
from_counted b i at (suc n) = (refl, from_counted b (i + 1) (at + get_or b.lengths i 0) n)

burst_all : (b : Burst) (room : ℕ) → All Counted (calls_of b room)
unfolding calls_of
burst_all b room = of_test (is_whole b room)
  where
    of_test : (t : Bool) → All Counted (cond t (calls_from b 0 0 (length b.lengths)) [])
    of_test true = from_counted b 0 0 (length b.lengths)
    of_test false = tt

got-all : (s : Bytes) (cs : List Call) → All Counted cs → All Counted (got_all s cs)
got-all s [] h = tt
got-all s (c ∷ cs) h = (got-counted (clock_of s) c ∙ h.0, got-all (bytes_low s c) cs h.1)

one_counted : (k : Counters) (s : Bytes) (p : PublicCall) → counters_left k s p ≡ counted k (counted_answers s (calls_made s p))
one_counted k s (single c) = by_test (is_counted c) (λ h. rw h refl) (λ h. rw h refl)
one_counted k s (burst b room) =
    ap (counted k) (sym (all_counted s (calls_of b room) (burst_all b room) ∙ numbers_same s (calls_of b room)))
one_counted k s (low c) =
    by_test (is_counted c)
    (λ h. rw (got-counted (clock_of s) c, h) (ap (raised k) (low_number_is s c ∙ sym (number_same s (got (clock_of s) c)))))
    (λ h. rw (got-counted (clock_of s) c, h) refl)
one_counted k s (low_burst b room) =
    let cs : List Call = got_all s (calls_of b room) in
    ap (counted k) (got_numbers s (calls_of b room) ∙ sym (all_counted s cs (got-all s (calls_of b room) (burst_all b room)) ∙ numbers_same s cs))

pub counters_counted : (k : Counters) (s : Bytes) (ps : List PublicCall) → counters_left_all k s ps ≡ counted k (counted_answers s (all_made s ps))
counters_counted k s [] = refl
counters_counted k s (p ∷ ps) =
    let more : List Call = all_made (table_left s p) ps in
    let one : List ℕ = counted_answers s (calls_made s p) in
    counters_counted (counters_left k s p) (table_left s p) ps
    ∙ ap₂ (λ (u : Counters) (t : Bytes). counted u (counted_answers t more)) (one_counted k s p) (left_is s p)
    ∙ sym (counted-append k one (counted_answers (bytes_after_all answer_number table_after s (calls_made s p)) more))
    ∙ sym (ap (counted k) (append-counted s (calls_made s p) more))

pub counts_kept : CountsKept
counts_kept s ps n h =
    ap (λ (k : Counters). count_of k n) (counters_counted cleared s ps) ∙ counts_are_history (counted_answers s (all_made s ps)) n h

-- ---- the claim

pub library_keeps : LibraryKeeps
library_keeps memory key count accepted calls are =
    let s : Bytes = fresh_table key count in
    let made : List Call = all_made s calls in
    let all = demand3_of_calls key count (from-1 memory key count accepted) (to-256 memory key count accepted) made (all_are s calls are) in
    rw (is-fresh memory key count accepted) (record {
      numbers = all_told_is s calls ∙ numbers_same s made ∙ all.follows.numbers;
      bytes = all_left s calls ∙ all_bytes_same s made ∙ all.follows.bytes;
      demand = all.demand;
      counts = counts_kept s calls;
    })
