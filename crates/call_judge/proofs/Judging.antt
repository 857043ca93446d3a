-- The tests of a datagram before the bucket's own, in the code's order and in the rules': the same answer. Assumes nothing.
use mathlib.Core.Path.{◌≡◌, refl, sym, ap, ◌∙◌}
use mathlib.Core.Bool.{Bool, true, false, cond, not}
use mathlib.Core.List.{[], ◌∷◌}
use Prim.Native.Nat.{ℕ, ◌≤◌}
use borrow.Author.Tests.{eqb-true, eqb-false, ne_eqb}
use lib.Dec.{eqb, ltb}
use lib.ListN.{length}
use native.Mathlib.Omega.{arith}
use Rattle.node.specs.Nodes.{is_address}
use Rattle.octets.specs.Octets.{Bytes}
use Rattle.lists.specs.Lists.{first}
use Rattle.lists.proofs.Laws.{by_test}
use Rattle.node.specs.declared.UnixSeconds.{UnixSeconds}
use Rattle.table_model.specs.Layout.{clock_of}
use Rattle.packet.specs.declared.Packet.{Packet}
use Rattle.packet.specs.declared.Packet.TheVariants as packet
use Rattle.packet.specs.declared.Parsed.{Parsed}
use Rattle.packet.specs.declared.Parsed.TheVariants as parsed
use Rattle.packet_envelope.specs.Envelope.{is_sized, hash_matches}
use Rattle.packet_datagram.specs.Datagram.{read_at}
use Rattle.packet_datagram.proofs.Refusals.{Refusable, refusable}
use Rattle.call_history.specs.Model.{wrong_length, wrong_hash, Reading, refused, is_refused, is_own, is_kept, slot}
use Rattle.call_model.specs.Reading.{fault_of, packet_reading, parsed_reading, reading}
use Rattle.call_model.specs.Calls.{env_of, unsound_for}
use Rattle.table.specs.declared.Touched.TheVariants.{NotKept, Slot}
use Rattle.table.specs.Steps.{pick, touched_by}
use Rattle.call_touched.specs.declared.Reach.{Reach}
use Rattle.call_touched.specs.Steps.{reached, is_wrong_key, is_own_key}
use Rattle.call_touched.proofs.Touch.{leads, is-touched}
use Rattle.call_judge.specs.declared.Judged.{Judged}
use Rattle.call_judge.specs.declared.Judged.TheVariants.{Refused}
use Rattle.call_judge.specs.Steps.{judged_by, after_reading, judged_at, judged_on, passed_to, judged}

-- ---- the tests of what a datagram reads as

-- the number of a refused packet
abbrev number_or : Parsed → ℕ → ℕ
number_or (parsed.Packet p) x = x
number_or (parsed.Refused n) x = n

-- 8 to 11
abbrev read_tests : Reading → ℕ → ℕ
read_tests r x = cond (is_refused 8 r) 8 (cond (is_refused 9 r) 9 (cond (is_refused 10 r) 10 (cond (is_refused 11 r) 11 x)))

fault_tests : (n x : ℕ) → (8 ≤ n) × (n ≤ 11) → read_tests (refused (fault_of n)) x ≡ n
fault_tests n x h =
    by_test (eqb n 8)
    (λ a. rw a (sym (eqb-true n 8 a)))
    (λ a. by_test (eqb n 9)
    (λ b. rw (a, b) (sym (eqb-true n 9 b)))
    (λ b. by_test (eqb n 10)
    (λ c. rw (a, b, c) (sym (eqb-true n 10 c)))
    (λ c. rw (a, b, c) (omega (arith, h.0, h.1, eqb-false n 8 a, eqb-false n 9 b, eqb-false n 10 c)))))

-- a packet has no fault
faultless : (n : ℕ) (g : Bytes) (p : Packet) → is_refused n (packet_reading g p) ≡ false
faultless n g (packet.Ping p) = refl
faultless n g (packet.Pong p) = refl
faultless n g (packet.FindNode p) = refl
faultless n g (packet.Neighbors p) = refl
faultless n g (packet.EnrRequest p) = refl
faultless n g (packet.EnrResponse p) = refl

read-tests : (g : Bytes) (r : Parsed) (x : ℕ) → Refusable r → read_tests (parsed_reading g r) x ≡ number_or r x
read-tests g (parsed.Packet p) x h = rw (faultless 8 g p, faultless 9 g p, faultless 10 g p, faultless 11 g p) refl
read-tests g (parsed.Refused n) x h = fault_tests n x h

-- what is read is of a datagram with the right length and hash
fault_late : (n : ℕ) → (is_refused 3 (refused (fault_of n)) ≡ false) × (is_refused 4 (refused (fault_of n)) ≡ false)
fault_late n =
    by_test (eqb n 8)
    (λ a. rw a (refl, refl))
    (λ a. by_test (eqb n 9) (λ b. rw (a, b) (refl, refl)) (λ b. by_test (eqb n 10) (λ c. rw (a, b, c) (refl, refl)) (λ c. rw (a, b, c) (refl, refl))))

late : (g : Bytes) (r : Parsed) → (is_refused 3 (parsed_reading g r) ≡ false) × (is_refused 4 (parsed_reading g r) ≡ false)
late g (parsed.Packet p) = (faultless 3 g p, faultless 4 g p)
late g (parsed.Refused n) = fault_late n

-- ---- the tests together, by what each of them finds

-- the number of what was read, and 12
last : (r : Parsed) (kept : Bool) (i : ℕ) → Refusable r
    → judged_by (number_or r (cond (not kept) 12 0)) (passed_to i r) ≡ after_reading (pick kept (Slot i) NotKept) r
last (parsed.Packet p) true i h = refl
last (parsed.Packet p) false i h = refl
last (parsed.Refused n) kept i h = rw (ne_eqb n 0 (λ z. omega (arith, h.0))) refl

-- the datagram reads as r: it has the right length, the right hash, and then p was read
abbrev reads : Bytes → Bool → Bool → Parsed → Reading
reads g sized matches p = cond sized (cond matches (parsed_reading g p) (refused wrong_hash)) (refused wrong_length)

-- 5 to 12
keyed : (whole own kept form : Bool) (p : Parsed) (i : ℕ) → Refusable p
    → judged_by (cond (not whole) 5 (cond (not form) 6 (cond own 7 (number_or p (cond (not kept) 12 0))))) (passed_to i p)
    ≡ judged_by (cond (is_wrong_key (leads whole own kept i)) 5 (cond (not form) 6 (cond (is_own_key (leads whole own kept i)) 7 0)))
    (after_reading (leads whole own kept i) p)
keyed false own kept form p i h = refl
keyed true true kept false p i h = refl
keyed true true kept true p i h = refl
keyed true false true false p i h = refl
keyed true false false false p i h = refl
keyed true false true true p i h = last p true i h
keyed true false false true p i h = last p false i h

-- 2 to 12
pub same_judged : (g : Bytes) (back sized matches whole own kept form : Bool) (unix : UnixSeconds) (i : ℕ)
    → judged_by
    (first
    ((back, 2)
    ∷ (is_refused 3 (reads g sized matches (read_at g unix)), 3)
    ∷ (is_refused 4 (reads g sized matches (read_at g unix)), 4)
    ∷ (not whole, 5)
    ∷ (not form, 6)
    ∷ (own, 7)
    ∷ (is_refused 8 (reads g sized matches (read_at g unix)), 8)
    ∷ (is_refused 9 (reads g sized matches (read_at g unix)), 9)
    ∷ (is_refused 10 (reads g sized matches (read_at g unix)), 10)
    ∷ (is_refused 11 (reads g sized matches (read_at g unix)), 11)
    ∷ (not kept, 12)
    ∷ []))
    (passed_to i (read_at g unix))
    ≡ judged_by
    (first
    ((back, 2)
    ∷ (not sized, 3)
    ∷ (not matches, 4)
    ∷ (is_wrong_key (leads whole own kept i), 5)
    ∷ (not form, 6)
    ∷ (is_own_key (leads whole own kept i), 7)
    ∷ []))
    (after_reading (leads whole own kept i) (read_at g unix))
same_judged g true sized matches whole own kept form unix i = refl
same_judged g false false matches whole own kept form unix i = refl
same_judged g false true false whole own kept form unix i = refl
same_judged g false true true whole own kept form unix i =
    let p : Parsed = read_at g unix in
    let r : Reading = parsed_reading g p in
    let no = late g p in
    let key_tests : ℕ → ℕ = λ x. cond (not whole) 5 (cond (not form) 6 (cond own 7 x)) in
    let tests : cond (is_refused 3 r) 3 (cond (is_refused 4 r) 4 (key_tests (read_tests r (cond (not kept) 12 0)))) ≡ key_tests (number_or p (cond (not kept) 12 0)) =
    rw (no.0, no.1) (ap key_tests (read-tests g p (cond (not kept) 12 0) (refusable g unix))) in
    ap (λ (n : ℕ). judged_by n (passed_to i p)) tests ∙ keyed whole own kept form p i (refusable g unix)

-- ---- with 1

module _ (s : Bytes) (now : ℕ) (unix : UnixSeconds) (address key g : Bytes) where
  judge-unsound : unsound_for reading s key ≡ true → Refused 1 ≡ judged s now unix address key g
  unfolding judged
  judge-unsound u = sym (rw u refl)

  judge-sound : unsound_for reading s key ≡ false → judged_at (clock_of s) now unix g (touched_by s key) address ≡ judged s now unix address key g
  unfolding judged reading
  judge-sound u =
      sym
      (rw (u, is-touched s key)
      (same_judged g (ltb now (clock_of s)) (is_sized g) (hash_matches g) (eqb (length key) 64) (is_own (env_of reading s) key) (is_kept (env_of reading s) key)
      (is_address address) unix (slot (env_of reading s) key)))

  -- by where the key leads
  judge-reached : judged_on (clock_of s) now unix g (reached s key) address ≡ judged s now unix address key g
  unfolding reached
  judge-reached = by_test (unsound_for reading s key) (λ u. rw u (judge-unsound u)) (λ u. rw u (judge-sound u))

  pub judged-at : {reach : Reach} {r : Judged} → reach ≡ reached s key → r ≡ judged_on (clock_of s) now unix g reach address → r ≡ judged s now unix address key g
  judged-at e h = h ∙ ap (λ (x : Reach). judged_on (clock_of s) now unix g x address) e ∙ judge-reached
