-- The widening, once for all calls: what a call gives by what its reading gave. Assumes nothing.
use Prim.Native.Nat.{ℕ, ◌<◌, ◌≤◌}
use mathlib.Core.Path.{◌≡◌, refl, sym, ap, ◌∙◌}
use mathlib.Core.Bool.{Bool, true, false, cond, not}
use native.Mathlib.Omega.{arith}
use borrow.Author.Tests.{lt-ltb, le-ltb}
use lib.Dec.{eqb, ltb}
use lib.ListN.{length}
use Rattle.std.specs.Option.{ok_or}
use Rattle.octets.specs.Octets.{Bytes}
use Rattle.lists.proofs.Laws.{by_test, never, and_left}
use Rattle.node.specs.declared.MonotonicMillis.{MonotonicMillis}
use Rattle.std.specs.Prelude.{Option, Some, None, Result, Ok, Err}
use Rattle.clock32.specs.Widened.{widened}
use Rattle.table_model.specs.Layout.{clock_of, header_sound}
use Rattle.table_model.proofs.Header.{header-sound}
use Rattle.table_model.specs.Sound.{buckets_sound, table_sound}
use Rattle.call_history.specs.Model.{Call, datagram, ping_sent, sweep, closest, unclocked}
use Rattle.call_history.specs.Demand3.{clock_reading}
use Rattle.call_model.specs.Calls.{unsound_on, answer_on, bytes_after}
use Rattle.call_model.specs.AnyBytes.{SoundFor}
use Rattle.call_model.specs.Reading.{reading}
use Rattle.call_model.proofs.AnyBytes.{on-any-bytes}
use Rattle.call_answer.specs.declared.Received.{Received}
use Rattle.call_answer.specs.Answer.{refusal, number_of}
use Rattle.call_datagram.specs.Received.{received}
use Rattle.call_datagram.proofs.Answered.{answer-number}
use Rattle.call_low.specs.declared.ClockError.{ClockError}
use Rattle.call_low.specs.declared.ClockError.TheVariants.{Unsound, Back}
use Rattle.call_low.specs.Got.{has_clock, at_millis, clocked, got, full_clock, answer_low, bytes_low, received_by, received_low}
use Rattle.call_low.specs.Steps.{low_clock, back_number}

-- ---- what low_clock gives, and full_clock

-- room for a header
abbrev roomy : Bytes → Bool
roomy s = not (ltb (length s) 512)

has-header : (s : Bytes) → header_sound s ≡ true → ltb (length s) 512 ≡ false
has-header s h = le-ltb (length s) 512 (omega (arith, (header-sound s h).size))

no_header : (s : Bytes) → roomy s ≡ false → header_sound s ≡ false
no_header s h = by_test (header_sound s) (λ g. never (sym (ap not (has-header s g)) ∙ h)) (λ g. g)

module _ (s : Bytes) (r : ℕ) where
  pub no-clock : length s < 512 → Err Unsound ≡ low_clock s r
  unfolding low_clock
  no-clock h = rw (lt-ltb (length s) 512 h) refl

  -- w is what widen gave at the clock that was read
  pub clock-of : {w : Option MonotonicMillis} {clock : MonotonicMillis} → 512 ≤ length s → clock.0 ≡ clock_of s → w ≡ widened clock.0 r → ok_or w Back ≡ low_clock s r
  unfolding low_clock
  clock-of {w = w} {clock = clock} h e e' =
      let is : w ≡ widened (clock_of s) r = e' ∙ ap (λ (n : ℕ). widened n r) e in
      rw (le-ltb (length s) 512 h, ← is) refl

  pub full-unsound : header_sound s ≡ false → Err Unsound ≡ full_clock s r
  unfolding full_clock
  full-unsound h = rw h refl

  pub full-sound : {f : Result MonotonicMillis ClockError} → header_sound s ≡ true → f ≡ low_clock s r → f ≡ full_clock s r
  unfolding full_clock low_clock
  full-sound h e = e ∙ rw (has-header s h, h) refl

-- and back from it
nothing_else : {A : Type 0} → ◌≡◌ {A = ℕ} 0 1 → A
nothing_else z = absurd (omega arith)

was_unsound : (b : Bool) (w : Option MonotonicMillis) → cond b (ok_or w Back) (Err Unsound) ≡ Err Unsound → b ≡ false
was_unsound true (Some t) h = nothing_else cc
was_unsound true None h = nothing_else cc
was_unsound false w h = refl

was_back : (b : Bool) (w : Option MonotonicMillis) → cond b (ok_or w Back) (Err Unsound) ≡ Err Back → w ≡ None
was_back true (Some t) h = nothing_else cc
was_back true None h = refl
was_back false w h = nothing_else cc

was_at : (b : Bool) (w : Option MonotonicMillis) (t : MonotonicMillis) → cond b (ok_or w Back) (Err Unsound) ≡ Ok t → w ≡ Some t
was_at true (Some u) t h = cc
was_at true None t h = nothing_else cc
was_at false w t h = nothing_else cc

-- ---- a call as it got its clock

-- without a sound header 1 applies to every call
no_table : (s : Bytes) → header_sound s ≡ false → (c : Call) → SoundFor reading s c → ⊥
unfolding table_sound
no_table s h (datagram now unix address udp key bytes) ok = never (sym ok.0 ∙ h)
no_table s h (ping_sent now key address udp tcp hash) ok = never (sym ok.0 ∙ h)
no_table s h (sweep now) ok = never (sym (and_left (header_sound s) (buckets_sound s) ok) ∙ h)
no_table s h (closest target room) ok = never (sym (and_left (header_sound s) (buckets_sound s) ok) ∙ h)
no_table s h (unclocked c) ok = no_table s h c ok

module _ (s : Bytes) (c : Call) where
  unsound-number : header_sound s ≡ false → answer_on reading s c ≡ 1
  unsound-number h = ((on-any-bytes reading).one-exactly s c).1 (no_table s h c)

  unsound-bytes : header_sound s ≡ false → bytes_after reading s c ≡ s
  unsound-bytes h = (on-any-bytes reading).refused_unchanged s c (λ z. absurd (omega (arith, unsound-number h)))

  unclocked-number : answer_on reading s (unclocked c) ≡ back_number (unsound_on reading s c)
  unfolding answer_on
  unclocked-number = refl

  unclocked-bytes : bytes_after reading s (unclocked c) ≡ s
  unfolding bytes_after
  unclocked-bytes = by_test (eqb (answer_on reading s (unclocked c)) 0) (λ h. rw h refl) (λ h. rw h refl)

  pub got-untimed : (clock : ℕ) → has_clock c ≡ false → got clock c ≡ c
  unfolding got
  got-untimed clock h = rw h refl

  pub got-by : (clock : ℕ) (w : Option MonotonicMillis) → has_clock c ≡ true → widened clock (clock_reading 0 c) ≡ w → got clock c ≡ clocked w c
  unfolding got
  got-by clock w h e = rw (h, e) refl

-- the law: by what its reading gave, the answer number of a call with a clock, and the bytes that it leaves
module _ (s : Bytes) (c : Call) (timed : has_clock c ≡ true) where
  abbrev front : Result MonotonicMillis ClockError
  front = low_clock s (clock_reading 0 c)

  pub low-unsound : front ≡ Err Unsound → (1 ≡ answer_low s c) × (s ≡ bytes_low s c)
  unfolding low_clock
  low-unsound h =
      let none : header_sound s ≡ false = no_header s (was_unsound (roomy s) (widened (clock_of s) (clock_reading 0 c)) h) in
      (sym (unsound-number s (got (clock_of s) c) none), sym (unsound-bytes s (got (clock_of s) c) none))

  pub low-back : {n : ℕ} → front ≡ Err Back → n ≡ back_number (unsound_on reading s c) → (n ≡ answer_low s c) × (s ≡ bytes_low s c)
  unfolding low_clock
  low-back h e =
      let is : got (clock_of s) c ≡ unclocked c =
      got-by s c (clock_of s) None timed (was_back (roomy s) (widened (clock_of s) (clock_reading 0 c)) h) in
      rw is (e ∙ sym (unclocked-number s c), sym (unclocked-bytes s c))

  pub low-at : {n : ℕ} {s' : Bytes} (t : MonotonicMillis) → front ≡ Ok t
      → n ≡ answer_on reading s (at_millis c t.0) → s' ≡ bytes_after reading s (at_millis c t.0) → (n ≡ answer_low s c) × (s' ≡ bytes_low s c)
  unfolding low_clock
  low-at t h e e' =
      let is : got (clock_of s) c ≡ at_millis c t.0 =
      got-by s c (clock_of s) (Some t) timed (was_at (roomy s) (widened (clock_of s) (clock_reading 0 c)) t h) in
      rw is (e, e')

-- ---- the answer to a datagram

module _ (s : Bytes) (r unix : ℕ) (address : Bytes) (udp : ℕ) (key g : Bytes) where
  abbrev it : Call
  it = datagram r unix address udp key g

  refused-by : header_sound s ≡ false → (w : Option MonotonicMillis) → refusal 1 ≡ received_by w s r unix address udp key g
  unfolding received
  refused-by h (Some t) = rw (unsound-number s (datagram t.0 unix address udp key g) h) refl
  refused-by h None = rw (unsound-number s (unclocked it) h) refl

  pub answer-unsound : {x : Received} → low_clock s r ≡ Err Unsound → x ≡ refusal 1 → x ≡ received_low s r unix address udp key g
  unfolding low_clock received_low
  answer-unsound h is = is ∙ refused-by (no_header s (was_unsound (roomy s) (widened (clock_of s) r) h)) (widened (clock_of s) r)

  pub answer_back : {x : Received} {n : ℕ} → low_clock s r ≡ Err Back → n ≡ back_number (unsound_on reading s it) → x ≡ refusal n → x ≡ received_low s r unix address udp key g
  unfolding low_clock received_low
  answer_back h e is = rw (was_back (roomy s) (widened (clock_of s) r) h) (is ∙ ap refusal (e ∙ sym (unclocked-number s it)))

  pub answer_at : {x : Received} (t : MonotonicMillis) → low_clock s r ≡ Ok t → x ≡ received s t.0 unix address udp key g → x ≡ received_low s r unix address udp key g
  unfolding low_clock received_low
  answer_at t h is = rw (was_at (roomy s) (widened (clock_of s) r) t h) is

  -- its number is the call's
  number_by : (w : Option MonotonicMillis) → number_of (received_by w s r unix address udp key g) ≡ answer_on reading s (clocked w it)
  number_by (Some t) = answer-number s t.0 (record { 0 = unix }) address udp key g
  number_by None = refl

  pub low-number : number_of (received_low s r unix address udp key g) ≡ answer_low s it
  unfolding received_low got
  low-number = number_by (widened (clock_of s) r)
