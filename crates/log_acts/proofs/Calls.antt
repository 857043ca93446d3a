-- What the functions that take a line make is what the steps say. Assumes nothing.
use Prim.Native.Nat.{ℕ, ◌-◌, ◌≤◌}
use mathlib.Core.Path.{◌≡◌, refl, sym, ap, ◌∙◌}
use mathlib.Core.Bool.{Bool, true, false}
use mathlib.Core.List.{◌++◌}
use native.Mathlib.Omega.{arith}
use borrow.Author.Tests.{eqb-true}
use lib.Dec.{eqb}
use lib.ListN.{length, take, drop}
use lib.Seq.{length-take-le}
use Rattle.octets.specs.Octets.{Bytes, store, same_bytes}
use Rattle.lists.proofs.Laws.{by_test}
use Rattle.node.specs.declared.UnixSeconds.{UnixSeconds}
use Rattle.bucket_model.specs.Contents.{Contents}
use Rattle.bucket_lookup.specs.declared.Lookup.{Lookup}
use Rattle.packet.specs.declared.Packet.{Packet}
use Rattle.packet.specs.declared.Packet.TheVariants as packet
use Rattle.call_history.specs.Model.{Call, datagram, ping_sent}
use Rattle.call_history.specs.Words.{is_pong}
use Rattle.call_model.specs.Calls.{bucket_for, answer_on, bytes_after}
use Rattle.call_model.specs.Reading.{packet_reading, reading}
use Rattle.call_answer.specs.Answer.{accepted, number_of}
use Rattle.call_datagram.specs.Received.{received}
use Rattle.call_datagram.proofs.Datagram.{front-passed, whole, packet-read}
use Rattle.call_datagram.proofs.Answered.{answer-number}
use Rattle.log_lines.specs.Lines as lines
use Rattle.log_line.specs.declared.Line.{Line}
use Rattle.log_line.specs.Forms.{line_of}
use Rattle.log_state.specs.declared.Replay.{Replay}
use Rattle.log_state.specs.State.{size_of, state_of}
use Rattle.log_state.proofs.Memory.{size_fits, front_part, front-stored, front-is}
use Rattle.log_own.specs.declared.Made.{Made}
use Rattle.log_own.specs.OwnLine.{own_answer}
use Rattle.log_own.specs.OwnLine as own_line
use Rattle.log_history.specs.Past.{call, asked_by, asked}
use Rattle.log_replay.specs.Replay.{with_table, line_after, after}
use Rattle.log_run.specs.Run.{number_on}
use Rattle.log_acts.specs.declared.Acted.{Acted}
use Rattle.log_acts.specs.declared.Taken.{Taken}
use Rattle.log_acts.specs.Acts.{is_pong_outcome, idle, from_it, heard_acts, pinged_acts, acts_by, acts_of}
use Rattle.log_acts.specs.ActedLine.{ActedLine}

-- ---- a datagram

by_packet : (now : ℕ) (address : Bytes) (udp : ℕ) (key g : Bytes) (p : Packet) (b : Contents)
    → is_pong_outcome (accepted now address udp key p b).outcome ≡ is_pong (packet_reading g p)
by_packet now address udp key g (packet.Ping p) b = refl
by_packet now address udp key g (packet.Pong p) b = refl
by_packet now address udp key g (packet.FindNode p) b = refl
by_packet now address udp key g (packet.Neighbors p) b = refl
by_packet now address udp key g (packet.EnrRequest p) b = refl
by_packet now address udp key g (packet.EnrResponse p) b = refl

-- what tells whether a packet is a pong counts only where it is accepted
from-it : (l : Lookup) (n now : ℕ) (address : Bytes) (udp : ℕ) (a b : Bool) → (n ≡ 0 → a ≡ b) → from_it l n a now address udp ≡ from_it l n b now address udp
from-it l n now address udp a b h = by_test (eqb n 0) (λ z. ap (λ x. from_it l n x now address udp) (h (eqb-true n 0 z))) (λ z. rw z refl)

module _ (X : Bytes) (l : Lookup) (s : Bytes) (now : ℕ) (unix : UnixSeconds) (address : Bytes) (udp : ℕ) (key g : Bytes) where
  abbrev c : Call
  c = datagram now unix.0 address udp key g

  is-pong-is : answer_on reading s c ≡ 0 → is_pong_outcome (received s now unix.0 address udp key g).outcome ≡ is_pong (reading g unix.0)
  unfolding received
  is-pong-is zero =
      let passed = front-passed s now unix address key g udp zero in
      let w = whole s now unix address key g udp passed in
      rw (zero, w.1, packet-read s now unix address key g udp passed w.1) (by_packet now address udp key g w.0 (bucket_for reading s key))

  pub heard-own : same_bytes X key ≡ true → heard_acts l (received s now unix.0 address udp key g) now address udp ≡ acts_by X l (answer_on reading s c) c
  unfolding acts_by
  heard-own same =
      let r = received s now unix.0 address udp key g in
      rw same
      (ap (λ n. from_it l n (is_pong_outcome r.outcome) now address udp) (answer-number s now unix address udp key g)
      ∙ from-it l (answer_on reading s c) now address udp (is_pong_outcome r.outcome) (is_pong (reading g unix.0)) is-pong-is)

  pub heard-other : same_bytes X key ≡ false → idle (number_of (received s now unix.0 address udp key g)) ≡ acts_by X l (answer_on reading s c) c
  unfolding acts_by
  heard-other same = rw same (ap idle (answer-number s now unix address udp key g))

-- the same, of strings that were decoded from others
pub said-datagram : (X : Bytes) (l : Lookup) (s : Bytes) (now unix udp : ℕ) {x y z x' y' z' : Bytes} {r : Acted} {t : Bytes} → x ≡ x' → y ≡ y' → z ≡ z'
    → (r ≡ acts_by X l (answer_on reading s (datagram now unix x udp y z)) (datagram now unix x udp y z)) × (t ≡ bytes_after reading s (datagram now unix x udp y z))
    → (r ≡ acts_by X l (answer_on reading s (datagram now unix x' udp y' z')) (datagram now unix x' udp y' z')) × (t ≡ bytes_after reading s (datagram now unix x' udp y' z'))
said-datagram X l s now unix udp p q r (e, f) = (cc, cc)

-- ---- a ping

module _ (X s : Bytes) (now udp tcp : ℕ) {x y z x' y' z' : Bytes} {n : ℕ} {r : Acted} {t : Bytes} where
  pub sent-own : x ≡ x' → y ≡ y' → z ≡ z' → (n ≡ answer_on reading s (ping_sent now x y udp tcp z)) × (t ≡ bytes_after reading s (ping_sent now x y udp tcp z))
      → same_bytes X x ≡ true → r ≡ pinged_acts n
      → ((l : Lookup) → r ≡ acts_by X l (answer_on reading s (ping_sent now x' y' udp tcp z')) (ping_sent now x' y' udp tcp z')) × (t ≡ bytes_after reading s (ping_sent now x' y' udp tcp z'))
  unfolding acts_by
  sent-own p q w done same e =
      let here : same_bytes X x' ≡ true = ap (same_bytes X) (sym p) ∙ same in
      let number : n ≡ answer_on reading s (ping_sent now x' y' udp tcp z') = done.0 ∙ cc in
      ((λ l. rw here (e ∙ ap pinged_acts number)), done.1 ∙ cc)

  pub sent-other : x ≡ x' → y ≡ y' → z ≡ z' → (n ≡ answer_on reading s (ping_sent now x y udp tcp z)) × (t ≡ bytes_after reading s (ping_sent now x y udp tcp z))
      → same_bytes X x ≡ false → r ≡ idle n
      → ((l : Lookup) → r ≡ acts_by X l (answer_on reading s (ping_sent now x' y' udp tcp z')) (ping_sent now x' y' udp tcp z')) × (t ≡ bytes_after reading s (ping_sent now x' y' udp tcp z'))
  unfolding acts_by
  sent-other p q w done same e =
      let here : same_bytes X x' ≡ false = ap (same_bytes X) (sym p) ∙ same in
      let number : n ≡ answer_on reading s (ping_sent now x' y' udp tcp z') = done.0 ∙ cc in
      ((λ l. rw here (e ∙ ap idle number)), done.1 ∙ cc)

-- ---- a line

-- the table in the memory
pub at_front : (replay : Replay) (memory : Bytes) (z : ℕ) → z ≡ size_of replay.count → take (z - 0) (drop 0 memory) ≡ (state_of replay memory).table
at_front replay memory z ez = front_part memory z ∙ ap (λ k. take k memory) ez

module _ (X : Bytes) (replay : Replay) (place : Lookup) (line memory : Bytes) where
  -- by what the line says
  pub by_line : (l : Line) {r : Taken} {m' : Bytes} → line_of line ≡ l → state_of r.replay m' ≡ line_after (state_of replay memory) line l
      → r.acted ≡ acts_of X place (number_on (state_of replay memory) (asked_by line l)) (asked_by line l) → r.replay.count ≤ 16
      → ActedLine X replay place (lines.whole line) memory r m'
  unfolding after asked
  by_line l e state acted count = record { state = rw e state; acted = rw e acted; count = count }

  module _ (big : 46304 ≤ length memory) (few : replay.count ≤ 16) (z : ℕ) (ez : z ≡ size_of replay.count) (c : Call) {a : Acted} {v m' : Bytes}
      (ea : a ≡ acts_by X place (answer_on reading (take (z - 0) (drop 0 memory)) c) c) (ev : v ≡ bytes_after reading (take (z - 0) (drop 0 memory)) c)
      (kept : length v ≡ length (take (z - 0) (drop 0 memory))) (em : m' ≡ take 0 memory ++ (v ++ drop (z - 0) (drop 0 memory))) where
    pub call-state : state_of replay m' ≡ with_table (state_of replay memory) (bytes_after reading (state_of replay memory).table c)
    call-state =
        let front : take (z - 0) (drop 0 memory) ≡ (state_of replay memory).table = at_front replay memory z ez in
        let fits : z ≤ length memory = omega (arith, size_fits replay memory big few) in
        let size : length v ≡ z = kept ∙ ap length front ∙ ap (λ n. length (take n memory)) (sym ez) ∙ length-take-le z memory fits in
        let back : m' ≡ store memory 0 v = em ∙ front-stored memory z fits v size in
        ap (with_table (state_of replay memory))
        (ap (λ n. take n m') (sym ez) ∙ ap (take z) back ∙ front-is memory z fits v size ∙ ev ∙ ap (λ s. bytes_after reading s c) front)

    pub call-acted : a ≡ acts_of X place (answer_on reading (state_of replay memory).table c) (call c)
    unfolding acts_of
    call-acted = ea ∙ ap (λ s. acts_by X place (answer_on reading s c) c) (at_front replay memory z ez)

  pub own-acted : {buckets : ℕ} {m' : Bytes} {made : Made} {a : Acted} (key : Bytes) → own_line.Taken (state_of replay memory) buckets key memory made m'
      → a ≡ idle made.number → a ≡ idle (own_answer (state_of replay memory) buckets key)
  own-acted key t e = e ∙ ap idle t.number
