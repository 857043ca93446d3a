-- Lists of calls with readings of 32 bits: what they answer and leave is what the calls do as they got their clocks. Assumes nothing.
use Prim.Native.Nat.{ℕ, ◌<◌, ◌^◌}
use mathlib.Core.Path.{◌≡◌, refl, ap}
use mathlib.Core.Bool.{Bool, true, false, cond}
use mathlib.Core.List.{List, [], ◌∷◌}
use Rattle.octets.specs.Octets.{Bytes}
use Rattle.lists.specs.Lists.{All}
use Rattle.std.specs.Prelude.{Option, Some, None}
use Rattle.node.specs.declared.MonotonicMillis.{MonotonicMillis}
use Rattle.clock32.specs.Widened.{widened}
use Rattle.clock32.proofs.Laws.{widens}
use Rattle.table_model.specs.Layout.{clock_of}
use Rattle.call_history.specs.Model.{Call, datagram, ping_sent, sweep, closest, unclocked}
use Rattle.call_history.specs.Demand3.{clock_reading}
use Rattle.call_history.specs.Chain.{IsCall, answers_on, bytes_after_all}
use Rattle.call_model.specs.Calls.{answer_on, bytes_after}
use Rattle.call_model.specs.Reading.{reading}
use Rattle.call_low.specs.Got.{has_clock, at_millis, clocked, got, answer_low, bytes_low, got_all}

-- ---- the arguments of a call as it got its clock are values of their types

at_is : (c : Call) (t : ℕ) → t < 2 ^ 64 → IsCall c → IsCall (at_millis c t)
at_is (datagram now unix address udp key bytes) t h is = (h, is.1, is.2, is.3, is.4, is.5)
at_is (ping_sent now key address udp tcp hash) t h is = (h, is.1, is.2, is.3, is.4, is.5)
at_is (sweep now) t h is = h
at_is (closest target room) t h is = is
at_is (unclocked c) t h is = is

clocked_is : (clock r : ℕ) (w : Option MonotonicMillis) → widened clock r ≡ w → (c : Call) → IsCall c → IsCall (clocked w c)
clocked_is clock r (Some t) e c is = at_is c t.0 ((widens clock).rises r t e).1 is
clocked_is clock r None e c is = is

pub got_is : (clock : ℕ) (c : Call) → IsCall c → IsCall (got clock c)
unfolding got
got_is clock c is = either (has_clock c)
  where
    either : (b : Bool) → IsCall (cond b (clocked (widened clock (clock_reading 0 c)) c) c)
    either true = clocked_is clock (clock_reading 0 c) (widened clock (clock_reading 0 c)) refl c is
    either false = is

pub all_got : (s : Bytes) (cs : List Call) → All IsCall cs → All IsCall (got_all s cs)
all_got s [] are = tt
all_got s (c ∷ cs) are = (got_is (clock_of s) c are.0, all_got (bytes_low s c) cs are.1)

-- ---- the numbers and the bytes

pub got_numbers : (s : Bytes) (cs : List Call) → answers_on answer_low bytes_low s cs ≡ answers_on (answer_on reading) (bytes_after reading) s (got_all s cs)
got_numbers s [] = refl
got_numbers s (c ∷ cs) = ap (λ (ns : List ℕ). answer_low s c ∷ ns) (got_numbers (bytes_low s c) cs)

pub got_bytes : (s : Bytes) (cs : List Call) → bytes_after_all answer_low bytes_low s cs ≡ bytes_after_all (answer_on reading) (bytes_after reading) s (got_all s cs)
got_bytes s [] = refl
got_bytes s (c ∷ cs) = got_bytes (bytes_low s c) cs
