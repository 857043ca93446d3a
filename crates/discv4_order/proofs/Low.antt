-- The same at readings of 32 bits: calls at one reading get one clock, whichever is first, or none. Assumes nothing.
use Prim.Native.Nat.{ℕ, ◌≤◌, ◌<◌, ◌^◌}
use mathlib.Core.Path.{◌≡◌, refl, sym, ap, ap₂, subst, ◌∙◌}
use mathlib.Core.Bool.{Bool, true, cond}
use Rattle.octets.specs.Octets.{Bytes}
use Rattle.lists.proofs.Laws.{never}
use Rattle.std.specs.Prelude.{Option, Some, None}
use Rattle.node.specs.declared.MonotonicMillis.{MonotonicMillis}
use Rattle.clock32.specs.Widened.{widened}
use Rattle.clock32.proofs.Laws.{widens}
use Rattle.table_model.specs.Layout.{clock_of}
use Rattle.call_history.specs.Model.{Env, Call, datagram, ping_sent, sweep, closest, unclocked}
use Rattle.call_history.specs.Chain.{IsCall}
use Rattle.call_history.specs.Demand3.{clock_reading}
use Rattle.call_model.specs.Calls.{answer_on, bytes_after}
use Rattle.call_model.specs.Reading.{reading}
use Rattle.call_model.proofs.AnyBytes.{on-any-bytes}
use Rattle.call_low.specs.Got.{at_millis, clocked, got, received_by, received_low}
use Rattle.call_low.proofs.Calls.{got_is}
use Rattle.call_order.specs.Order.{has_bucket, is_of_bucket, Apart, InStretch, EitherWay}
use Rattle.call_order.proofs.Lists.{Commutes}
use Rattle.call_order.proofs.Bytes.{clock-after}
use Rattle.counters.specs.declared.Counters.{Counters}
use Rattle.counters.specs.Counters.{raised}
use Rattle.counters.proofs.Order.{raised_comm}
use Rattle.discv4.specs.Library.{answer_number, table_after, is_counted, low_number}
use Rattle.discv4.proofs.Demand3.{number_same, bytes_same, low_number_is, got-counted}
use Rattle.discv4_order.specs.Order.{Told, State, told_back, told, left, IsLow, told_low, left_low}
use Rattle.discv4_order.proofs.Calls.{is-counted, e, Ok, ok-left, either}

-- ---- a call at a reading is the call as it got its clock

abbrev got_on : State → Call → Call
got_on x c = got (clock_of x.table) c

told-clocked : (w : Option MonotonicMillis) (x : State) (r unix : ℕ) (address : Bytes) (udp : ℕ) (key bytes : Bytes)
    → Told.packet (received_by w x.table r unix address udp key bytes) ≡ told x (clocked w (datagram r unix address udp key bytes))
told-clocked (Some t) x r unix address udp key bytes = refl
told-clocked None x r unix address udp key bytes = refl

number-clocked : (w : Option MonotonicMillis) (x : State) (r : ℕ) (key address : Bytes) (udp tcp : ℕ) (hash : Bytes)
    → Told.number (answer_on reading x.table (clocked w (ping_sent r key address udp tcp hash))) ≡ told x (clocked w (ping_sent r key address udp tcp hash))
number-clocked (Some t) x r key address udp tcp hash = refl
number-clocked None x r key address udp tcp hash = refl

sweep_clocked : (w : Option MonotonicMillis) (x : State) (r : ℕ) → Told.number (answer_on reading x.table (clocked w (sweep r))) ≡ told x (clocked w (sweep r))
sweep_clocked (Some t) x r = refl
sweep_clocked None x r = refl

told-got : (x : State) (c : Call) → told_low x c ≡ told x (got_on x c)
unfolding got received_low
told-got x (datagram r unix address udp key bytes) = told-clocked (widened (clock_of x.table) r) x r unix address udp key bytes
told-got x (ping_sent r key address udp tcp hash) = number-clocked (widened (clock_of x.table) r) x r key address udp tcp hash
told-got x (sweep r) = sweep_clocked (widened (clock_of x.table) r) x r
told-got x (closest target room) = refl
told-got x (unclocked c) = refl

left-got : (x : State) (c : Call) → left_low x c ≡ left x (got_on x c)
left-got x c =
    let s = x.table in
    let k = x.counters in
    let number : low_number s c ≡ answer_number s (got_on x c) = low_number_is s c ∙ sym (number_same s (got_on x c)) in
    ap₂ (λ (t : Bytes) (u : Counters). record { table = t; counters = u })
    (sym (bytes_same s (got_on x c)))
    (ap₂ (λ (b : Bool) (n : ℕ). cond b (raised k n) k) (sym (got-counted (clock_of s) c)) number)

-- ---- a call that has a bucket, at another clock

module _ (e : Env) where
  at_key : (c : Call) (t : ℕ) → has_bucket e c ≡ true → InStretch e t (at_millis c t)
  at_key (datagram now unix address udp key bytes) t has = (refl, has)
  at_key (ping_sent now key address udp tcp hash) t has = (refl, has)
  at_key (sweep now) t has = never (sym has)
  at_key (closest target room) t has = never (sym has)
  at_key (unclocked c) t has = never (sym has)

  same-bucket : (i : ℕ) (c : Call) (t : ℕ) → is_of_bucket e i (at_millis c t) ≡ is_of_bucket e i c
  same-bucket i (datagram now unix address udp key bytes) t = refl
  same-bucket i (ping_sent now key address udp tcp hash) t = refl
  same-bucket i (sweep now) t = refl
  same-bucket i (closest target room) t = refl
  same-bucket i (unclocked c) t = refl

  same-reading : (r : ℕ) (c : Call) → InStretch e r c → clock_reading 0 c ≡ r
  same-reading r (datagram now unix address udp key bytes) in_c = in_c.0
  same-reading r (ping_sent now key address udp tcp hash) in_c = in_c.0
  same-reading r (sweep now) in_c = never (sym in_c.1)
  same-reading r (closest target room) in_c = never (sym in_c.1)
  same-reading r (unclocked c) in_c = never (sym in_c.1)

  -- as it gets its clock from what its reading gives
  got-from : (r : ℕ) (c : Call) → InStretch e r c → (clock : ℕ) (w : Option MonotonicMillis) → widened clock r ≡ w → got clock c ≡ clocked w c
  unfolding got
  got-from r (datagram now unix address udp key bytes) in_c clock w h =
      ap (λ v. clocked v (datagram now unix address udp key bytes)) (ap (widened clock) in_c.0 ∙ h)
  got-from r (ping_sent now key address udp tcp hash) in_c clock w h =
      ap (λ v. clocked v (ping_sent now key address udp tcp hash)) (ap (widened clock) in_c.0 ∙ h)
  got-from r (sweep now) in_c clock w h = never (sym in_c.1)
  got-from r (closest target room) in_c clock w h = never (sym in_c.1)
  got-from r (unclocked c) in_c clock w h = never (sym in_c.1)

-- a refused reading leaves the table
back_left : (s : Bytes) (c : Call) → bytes_after reading s (unclocked c) ≡ s
back_left s c =
    (on-any-bytes reading).refused_unchanged s (unclocked c) (λ z. never (sym (rw z at ((on-any-bytes reading).number_listed s (unclocked c)))))

-- ---- two calls

module _ (own : Bytes) (count : ℕ) (one : 1 ≤ count) (most : count ≤ 256) where
  abbrev rules : Env
  rules = e own count one most

  module _ (x : State) (ok : Ok own count one most x) (r : ℕ) (small : r < 2 ^ 32) where
    -- the second gets what it would have got as the first
    got-after : (w : Option MonotonicMillis) → widened (clock_of x.table) r ≡ w → (c d : Call) → IsCall (clocked w c) → InStretch rules r c → InStretch rules r d
        → got (clock_of (table_after x.table (clocked w c))) d ≡ clocked w d
    got-after None h c d is in_c in-d =
        got-from rules r d in-d (clock_of (table_after x.table (unclocked c))) None (ap (λ z. widened (clock_of z) r) (back_left x.table c) ∙ h)
    got-after (Some t) h c d is in_c in-d =
        let c' = at_millis c t.0 in
        got-from rules r d in-d (clock_of (table_after x.table c')) (Some t)
        (rw (bytes_same x.table c')
        (clock-after own count one most x.table ok t.0 (λ n. widened n r ≡ Some t) c' is (at_key rules c t.0 in_c.1)
        h ((widens (clock_of x.table)).again r t small h)))

    -- as they got their clocks
    clocked-either : (w : Option MonotonicMillis) (c d : Call) → IsCall (clocked w c) → IsCall (clocked w d) → InStretch rules r c → InStretch rules r d → Apart rules c d
        → EitherWay told left x (clocked w c) (clocked w d)
    clocked-either (Some t) c d is_c is-d in_c in-d apart =
        either own count one most x ok t.0 (at_millis c t.0) (at_millis d t.0) is_c is-d
        (at_key rules c t.0 in_c.1) (at_key rules d t.0 in-d.1)
        (λ i h g. apart i (sym (same-bucket rules i c t.0) ∙ h) (sym (same-bucket rules i d t.0) ∙ g))
    clocked-either None c d is_c is-d in_c in-d apart =
        let s = x.table in
        let same : (c d : Call) → bytes_after reading (bytes_after reading s (unclocked c)) (unclocked d) ≡ s =
        λ c d. back_left (bytes_after reading s (unclocked c)) d ∙ back_left s c in
        record {
          state =
              ap₂ (λ (t : Bytes) (u : Counters). record { table = t; counters = u })
              (same c d ∙ sym (same d c))
              (rw (is-counted rules c in_c.1, is-counted rules d in-d.1, back_left s c, back_left s d)
              (raised_comm x.counters (answer_on reading s (unclocked c)) (answer_on reading s (unclocked d))));
          first = ap (λ z. told_back c (answer_on reading z (unclocked c))) (back_left s d);
          second = ap (λ z. told_back d (answer_on reading z (unclocked d))) (back_left s c);
        }

    abbrev w : Option MonotonicMillis
    w = widened (clock_of x.table) r

    gets : (c : Call) → InStretch rules r c → got_on x c ≡ clocked w c
    gets c in_c = got-from rules r c in_c (clock_of x.table) w refl

    gets-call : (c : Call) → IsCall c → InStretch rules r c → IsCall (clocked w c)
    gets-call c is in_c = subst IsCall (gets c in_c) (got_is (clock_of x.table) c is)

    told-alone : (c : Call) → InStretch rules r c → told_low x c ≡ told x (clocked w c)
    told-alone c in_c = told-got x c ∙ ap (told x) (gets c in_c)

    -- one after the other
    module _ (c d : Call) (is : IsCall c) (in_c : InStretch rules r c) (in-d : InStretch rules r d) where
      abbrev y : State
      y = left x (clocked w c)

      first-left : left_low x c ≡ y
      first-left = left-got x c ∙ ap (left x) (gets c in_c)

      gets-second : got_on y d ≡ clocked w d
      gets-second = got-after w refl c d (gets-call c is in_c) in_c in-d

      both_left : left_low (left_low x c) d ≡ left y (clocked w d)
      both_left = ap (λ z. left_low z d) first-left ∙ left-got y d ∙ ap (left y) gets-second

      told-second : told_low (left_low x c) d ≡ told y (clocked w d)
      told-second = ap (λ z. told_low z d) first-left ∙ told-got y d ∙ ap (told y) gets-second

    low_either : (c d : Call) → IsCall c → IsCall d → InStretch rules r c → InStretch rules r d → Apart rules c d → EitherWay told_low left_low x c d
    low_either c d is_c is-d in_c in-d apart =
        let h = clocked-either w c d (gets-call c is_c in_c) (gets-call d is-d in-d) in_c in-d apart in
        record {
          state = both_left c d is_c in_c in-d ∙ h.state ∙ sym (both_left d c is-d in-d in_c);
          first = told-second d c is-d in-d in_c ∙ h.first ∙ sym (told-alone c in_c);
          second = told-second c d is_c in_c in-d ∙ h.second ∙ sym (told-alone d in-d);
        }

  pub low-commutes : Commutes told_low left_low rules (Ok own count one most) IsLow
  low-commutes =
      record {
        kept = λ x c is ok.
            subst (Ok own count one most) (sym (left-got x c)) (ok-left own count one most x (got_on x c) (got_is (clock_of x.table) c is.0) ok);
        either = λ x ok r c d is_c is-d in_c in-d apart.
            low_either x ok r (subst (λ n. n < 2 ^ 32) (same-reading rules r c in_c) is_c.1) c d is_c.0 is-d.0 in_c in-d apart;
      }
