-- The ping-sent call, from what its tests before the bucket's own find. Assumes nothing.
use mathlib.Core.Path.{◌≡◌, refl, sym, ap, ◌∙◌}
use mathlib.Core.Bool.{Bool, true, false, cond}
use mathlib.Core.List.{List}
use Prim.Native.Nat.{ℕ, ◌≤◌}
use native.Mathlib.Omega.{arith}
use borrow.Author.Tests.{eq-eqb, eqb-true, not-false}
use lib.Dec.{eqb, ltb}
use lib.ListN.{length}
use Rattle.node.specs.Nodes.{is_address}
use Rattle.octets.specs.Octets.{Bytes}
use Rattle.lists.specs.Lists.{first}
use Rattle.lists.proofs.Laws.{by_test, passed}
use Rattle.lists.proofs.Laws as lists
use Rattle.lists.proofs.First.{first-append}
use Rattle.table_model.specs.Layout.{clock_of}
use Rattle.call_history.specs.Model.{Call, ping_sent, is_own, is_kept, slot, ping_sent_refusals, held_refusals}
use Rattle.call_model.specs.Calls.{env_of, bucket_for, unsound_for, answer_on, bytes_after}
use Rattle.call_model.specs.Reading.{reading}
use Rattle.table.specs.Steps.{touched_by}
use Rattle.call_touched.specs.declared.Reach.{Reach}
use Rattle.call_touched.specs.Steps.{reached, SoundAt}
use Rattle.call_touched.proofs.Touch.{is-touched, sound-at}
use Rattle.call_touched.specs.Placed.{Placed}
use Rattle.call_touched.specs.Placed.{NotPlaced, In}
use Rattle.call_ping_sent.specs.Steps.{placed_by, placed_at, placed_on, ping_sent_front, placed, note_number, after_note}
use Rattle.call_ping_sent.proofs.Placing.{same_placed}

-- ---- what was placed, by its number

nowhere : (number i n : ℕ) → placed_by number (In i) ≡ NotPlaced n → (eqb number 0 ≡ false) × (number ≡ n)
nowhere number i n =
    by_test (eqb number 0)
    (λ z. rw z (λ e. absurd (let o : ◌≡◌ {A = ℕ} 0 1 = cc in omega arith)))
    (λ z. rw z (λ e. (refl, cc)))

somewhere : (number i j : ℕ) → placed_by number (In i) ≡ In j → (number ≡ 0) × (i ≡ j)
somewhere number i j =
    by_test (eqb number 0)
    (λ z. let none : number ≡ 0 = eqb-true number 0 z in rw z (λ e. (none, cc)))
    (λ z. rw z (λ e. absurd (let o : ◌≡◌ {A = ℕ} 0 1 = cc in omega arith)))

short : (address : Bytes) → is_address address ≡ true → length address ≤ 16
short address h =
    by_test (eqb (length address) 4)
    (λ t. omega (arith, eqb-true (length address) 4 t))
    (λ t. omega (arith, eqb-true (length address) 16 (rw t at h)))

module _ (s : Bytes) (now : ℕ) (key address hash : Bytes) where
  place-unsound : unsound_for reading s key ≡ true → NotPlaced 1 ≡ placed s now key address hash
  unfolding placed
  place-unsound u = sym (rw u refl)

  place-sound : unsound_for reading s key ≡ false → placed_at (clock_of s) now hash (touched_by s key) address ≡ placed s now key address hash
  unfolding placed
  place-sound u =
      sym
      (rw (u, is-touched s key)
      (same_placed (ltb now (clock_of s)) (eqb (length hash) 32) (eqb (length key) 64) (is_own (env_of reading s) key) (is_kept (env_of reading s) key)
      (is_address address) (slot (env_of reading s) key)))

  -- by where the key leads
  place-reached : placed_on (clock_of s) now hash (reached s key) address ≡ placed s now key address hash
  unfolding reached
  place-reached = by_test (unsound_for reading s key) (λ u. rw u (place-unsound u)) (λ u. rw u (place-sound u))

  pub placed-at : {reach : Reach} {p : Placed} → reach ≡ reached s key → p ≡ placed_on (clock_of s) now hash reach address → p ≡ placed s now key address hash
  placed-at e h = h ∙ ap (λ (x : Reach). placed_on (clock_of s) now hash x address) e ∙ place-reached

  module _ (udp tcp : ℕ) where
    abbrev call : Call
    call = ping_sent now key address udp tcp hash

    abbrev front : List (Bool × ℕ)
    front = ping_sent_front s now key address hash

    abbrev rest : List (Bool × ℕ)
    rest = held_refusals address udp key (bucket_for reading s key)

    answer-is : answer_on reading s call ≡ cond (eqb (first front) 0) (first rest) (first front)
    unfolding answer_on ping_sent_refusals
    answer-is = first-append front rest refl

    -- ---- refused before

    pub refused-before : {n : ℕ} → placed s now key address hash ≡ NotPlaced n → (n ≡ answer_on reading s call) × (s ≡ bytes_after reading s call)
    unfolding placed bytes_after
    refused-before {n} e =
        let no = nowhere (first front) (slot (env_of reading s) key) n e in
        let answer : answer_on reading s call ≡ n = answer-is ∙ rw no.0 no.1 in
        let some : eqb (answer_on reading s call) 0 ≡ false = rw (answer, sym no.1) no.0 in
        (sym answer, sym (rw some refl))

    -- ---- passed

    module _ {i : ℕ} (e : placed s now key address hash ≡ In i) where
      here : (first front ≡ 0) × (slot (env_of reading s) key ≡ i)
      unfolding placed
      here = somewhere (first front) (slot (env_of reading s) key) i e

      facts : lists.Passed front
      facts = passed front refl here.0

      pub ready : SoundAt s i × ((length key ≡ 64) × ((length address ≤ 16) × (length hash ≡ 32)))
      ready =
          let keyed = facts.1.1.1 in
          let whole : eqb (length key) 64 ≡ true = not-false _ keyed.0 in (
            rw here.1 at (sound-at s key facts.0 whole keyed.1.1.0 (not-false _ keyed.1.1.1.0)),
            (eqb-true _ _ whole, (short address (not-false _ keyed.1.0), eqb-true _ _ (not-false _ facts.1.1.0))),
          )

      number : answer_on reading s call ≡ first rest
      number = answer-is ∙ rw (eq-eqb (first front) 0 here.0) refl

      answered : note_number s (slot (env_of reading s) key) address udp key ≡ answer_on reading s call
      unfolding note_number
      answered = sym number

      left : after_note s (slot (env_of reading s) key) now key address udp tcp hash ≡ bytes_after reading s call
      unfolding after_note note_number bytes_after
      left = sym (rw number refl)

      pub done : {n : ℕ} {t : Bytes} → n ≡ note_number s i address udp key → t ≡ after_note s i now key address udp tcp hash
          → (n ≡ answer_on reading s call) × (t ≡ bytes_after reading s call)
      done en et = (
        en ∙ ap (λ (x : ℕ). note_number s x address udp key) (sym here.1) ∙ answered,
        et ∙ ap (λ (x : ℕ). after_note s x now key address udp tcp hash) (sym here.1) ∙ left,
      )
