-- The datagram call, from what its tests before the bucket's own find. Assumes nothing.
use mathlib.Core.Path.{◌≡◌, refl, sym, ap, ◌∙◌}
use mathlib.Core.Bool.{Bool, false, cond}
use mathlib.Core.List.{List}
use Prim.Native.Nat.{ℕ, ◌≤◌}
use native.Mathlib.Omega.{arith}
use borrow.Author.Tests.{eq-eqb, eqb-true, ltb-false, not-false}
use lib.Dec.{eqb}
use Rattle.octets.specs.Octets.{Bytes}
use Rattle.lists.specs.Lists.{first}
use Rattle.lists.proofs.Laws.{by_test, never, passed}
use Rattle.lists.proofs.Laws as lists
use Rattle.lists.proofs.First.{first-append}
use Rattle.node.specs.declared.UnixSeconds.{UnixSeconds}
use Rattle.table_model.specs.Layout.{clock_of}
use Rattle.packet.specs.declared.Packet.{Packet}
use Rattle.packet.specs.declared.Parsed.{Parsed}
use Rattle.packet.specs.declared.Parsed.TheVariants as parsed
use Rattle.packet_envelope.specs.Envelope.{is_sized, hash_matches}
use Rattle.packet_datagram.specs.Datagram.{read_at}
use Rattle.call_history.specs.Model.{Reading, is_refused, Call, datagram, slot, packet_refusals, datagram_refusals}
use Rattle.call_model.specs.Calls.{env_of, bucket_for, answer_on, bytes_after}
use Rattle.call_model.specs.Reading.{packet_reading, parsed_reading, reading}
use Rattle.call_touched.specs.Steps.{SoundAt}
use Rattle.call_touched.proofs.Touch.{sound-at}
use Rattle.call_answer.specs.declared.Received.{Received}
use Rattle.call_answer.specs.Answer.{refusal}
use Rattle.call_judge.specs.declared.Judged.TheVariants.{Refused, Passed}
use Rattle.call_judge.specs.Steps.{judged_by, datagram_front, passed_to, judged}
use Rattle.call_datagram.specs.Steps.{delivered, after_delivery}
use Rattle.call_datagram.specs.Received.{received}

-- ---- what was read

-- none of 8 to 11 applies
abbrev Whole : Bytes → Parsed → Type 0
Whole g r =
    (is_refused 8 (parsed_reading g r) ≡ false)
    × ((is_refused 9 (parsed_reading g r) ≡ false) × ((is_refused 10 (parsed_reading g r) ≡ false) × (is_refused 11 (parsed_reading g r) ≡ false)))

some_fault : (g : Bytes) (n : ℕ) → Whole g (parsed.Refused n) → ⊥
some_fault g n =
    by_test (eqb n 8)
    (λ a. rw a (λ h. never h.0))
    (λ a. by_test (eqb n 9)
    (λ b. rw (a, b) (λ h. never h.1.0))
    (λ b. by_test (eqb n 10) (λ c. rw (a, b, c) (λ h. never h.1.1.0)) (λ c. rw (a, b, c) (λ h. never h.1.1.1))))

is_packet : (g : Bytes) (r : Parsed) → Whole g r → (p : Packet) × (r ≡ parsed.Packet p)
is_packet g (parsed.Packet p) h = (p, refl)
is_packet g (parsed.Refused n) h = absurd (some_fault g n h)

-- ---- what was judged, by its number

has_passed : (number i : ℕ) (r : Parsed) (i' : ℕ) (p : Packet) → judged_by number (passed_to i r) ≡ Passed i' p → (number ≡ 0) × ((i ≡ i') × (r ≡ parsed.Packet p))
has_passed number i (parsed.Packet q) i' p =
    by_test (eqb number 0)
    (λ z. let none : number ≡ 0 = eqb-true number 0 z in rw z (λ e. (none, (cc, cc))))
    (λ z. rw z (λ e. absurd (let o : ◌≡◌ {A = ℕ} 0 1 = cc in omega arith)))
has_passed number i (parsed.Refused n) i' p =
    by_test (eqb number 0)
    (λ z. rw z (λ e. absurd (let o : ◌≡◌ {A = ℕ} 0 1 = cc in omega arith)))
    (λ z. rw z (λ e. absurd (let o : ◌≡◌ {A = ℕ} 0 1 = cc in omega arith)))

module _ (s : Bytes) (now : ℕ) (unix : UnixSeconds) (address key g : Bytes) (udp : ℕ) where
  abbrev call : Call
  call = datagram now unix.0 address udp key g

  abbrev read : Reading
  read = reading g unix.0

  abbrev front : List (Bool × ℕ)
  front = datagram_front s now address key read

  abbrev rest : Reading → List (Bool × ℕ)
  rest r = packet_refusals (env_of reading s) now address udp key r (bucket_for reading s key)

  answer-is : answer_on reading s call ≡ cond (eqb (first front) 0) (first (rest read)) (first front)
  unfolding answer_on datagram_refusals
  answer-is = first-append front (rest read) refl

  pub front-passed : answer_on reading s call ≡ 0 → first front ≡ 0
  front-passed h =
      by_test (eqb (first front) 0)
      (λ z. eqb-true (first front) 0 z)
      (λ z. let is : answer_on reading s call ≡ first front = answer-is ∙ rw z refl in sym is ∙ h)

  -- ---- passed

  module _ (none : first front ≡ 0) where
    facts : lists.Passed front
    facts = passed front refl none

    reads : read ≡ parsed_reading g (read_at g unix)
    unfolding reading
    reads =
        let sized : is_refused 3 read ≡ false = facts.1.1.0 in
        let matches : is_refused 4 read ≡ false = facts.1.1.1.0 in
        by_test (is_sized g)
        (λ a. by_test (hash_matches g)
        (λ b. rw (a, b) refl)
        (λ b. never (rw (a, b) at matches)))
        (λ a. never (rw a at sized))

    pub whole : (p : Packet) × (read_at g unix ≡ parsed.Packet p)
    whole =
        let faults = facts.1.1.1.1.1.1.1 in
        let is : parsed_reading g (read_at g unix) ≡ read = sym reads in
        is_packet g (read_at g unix)
        (ap (is_refused 8) is ∙ faults.0, (ap (is_refused 9) is ∙ faults.1.0, (ap (is_refused 10) is ∙ faults.1.1.0, ap (is_refused 11) is ∙ faults.1.1.1.0)))

    passed-sound : SoundAt s (slot (env_of reading s) key)
    passed-sound =
        let keyed = facts.1.1.1.1 in
        sound-at s key facts.0 (not-false _ keyed.0) keyed.1.1.0 (not-false _ keyed.1.1.1.1.1.1.1.0)

    passed-in-time : clock_of s ≤ now
    passed-in-time = ltb-false now (clock_of s) facts.1.0

    module _ {p : Packet} (is : read_at g unix ≡ parsed.Packet p) where
      pub packet-read : read ≡ packet_reading g p
      packet-read = reads ∙ ap (parsed_reading g) is

      passed-number : answer_on reading s call ≡ first (rest (packet_reading g p))
      passed-number = answer-is ∙ rw (eq-eqb (first front) 0 none) (ap (λ (r : Reading). first (rest r)) packet-read)

      answered : delivered s (slot (env_of reading s) key) now address udp key g p ≡ received s now unix.0 address udp key g
      unfolding delivered received
      answered = sym (rw (passed-number, is) refl)

      left : after_delivery s (slot (env_of reading s) key) now address udp key g p ≡ bytes_after reading s call
      unfolding after_delivery bytes_after
      left = sym (rw (passed-number, packet-read) refl)

  module _ {i : ℕ} {p : Packet} (e : judged s now unix address key g ≡ Passed i p) where
    here : (first front ≡ 0) × ((slot (env_of reading s) key ≡ i) × (read_at g unix ≡ parsed.Packet p))
    unfolding judged
    here = has_passed (first front) (slot (env_of reading s) key) (read_at g unix) i p e

    pub ready : SoundAt s i × (clock_of s ≤ now)
    ready = (rw here.1.0 at (passed-sound here.0), passed-in-time here.0)

    pub done : {r : Received} {t : Bytes} → r ≡ delivered s i now address udp key g p → t ≡ after_delivery s i now address udp key g p
        → (r ≡ received s now unix.0 address udp key g) × (t ≡ bytes_after reading s call)
    done er et = (
      er ∙ ap (λ (x : ℕ). delivered s x now address udp key g p) (sym here.1.0) ∙ answered here.0 here.1.1,
      et ∙ ap (λ (x : ℕ). after_delivery s x now address udp key g p) (sym here.1.0) ∙ left here.0 here.1.1,
    )

  -- ---- refused before

  not-passed : {n : ℕ} → judged s now unix address key g ≡ Refused n → (eqb (first front) 0 ≡ false) × (first front ≡ n)
  unfolding judged
  not-passed {n} e =
      by_test (eqb (first front) 0)
      (λ z.
      let w = whole (eqb-true (first front) 0 z) in
      let passed : Passed (slot (env_of reading s) key) w.0 ≡ Refused n = rw (z, w.1) at e in
      absurd (let o : ◌≡◌ {A = ℕ} 0 1 = cc in omega arith))
      (λ z. let same : Refused (first front) ≡ Refused n = rw z at e in (z, cc))

  pub refused-before : {n : ℕ} {r : Received} → judged s now unix address key g ≡ Refused n → r ≡ refusal n
      → (r ≡ received s now unix.0 address udp key g) × (s ≡ bytes_after reading s call)
  unfolding received bytes_after
  refused-before {n} e er =
      let no = not-passed e in
      let answer : answer_on reading s call ≡ n = answer-is ∙ rw no.0 no.1 in
      let some : eqb (answer_on reading s call) 0 ≡ false = rw (answer, sym no.1) no.0 in
      (er ∙ ap refusal (sym answer) ∙ sym (rw some refl), sym (rw some refl))
