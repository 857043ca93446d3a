-- The answer numbers on any bytes: each call gives only its own, and 1 exactly where something that it touches is not sound.
use Prim.Native.Nat.{ℕ}
use mathlib.Core.Path.{◌≡◌, refl, sym, ap, ◌∙◌}
use mathlib.Core.Logic.{◌↔◌}
use mathlib.Core.Bool.{Bool, true, false, cond, not, ◌&&◌}
use mathlib.Core.List.{List, [], ◌∷◌}
use borrow.Author.Tests.{eqb-true, eq-eqb, not-true, not-false}
use lib.Dec.{eqb, ltb}
use lib.ListN.{length, drop}
use Rattle.octets.specs.Octets.{Bytes}
use Rattle.lists.specs.Lists.{first, any, all}
use Rattle.lists.proofs.Laws.{by_test, never, and_left, and_right}
use Rattle.bucket_model.specs.Contents.{Contents}
use Rattle.table_model.specs.Layout.{clock_of, header_sound}
use Rattle.table_model.specs.Sound.{bucket_sound, table_sound}
use Rattle.call_history.specs.Model.{Env, Reading, refused, ping, pong, other, Call, datagram, ping_sent, sweep, closest, unclocked, is_own, is_kept, slot, datagram_refusals, ping_sent_refusals}
use Rattle.call_model.specs.Calls.{env_of, touches, bucket_for, unsound_for, unsound_on, answer_on}
use Rattle.call_model.specs.AnyBytes.{numbers_of, IsTouched, SoundForKey, SoundFor}
use Rattle.call_model.proofs.Form.{both_sound}

-- ---- which numbers

-- the number given is 0 or that of a test
first-listed : (l : List (Bool × ℕ)) (ns : List ℕ) → any (eqb 0) ns ≡ true → all (λ t. any (eqb t.1) ns) l ≡ true → any (eqb (first l)) ns ≡ true
first-listed [] ns z h = z
first-listed (t ∷ l) ns z h =
    let here : any (eqb t.1) ns ≡ true = and_left (any (eqb t.1) ns) (all (λ u. any (eqb u.1) ns) l) h in
    let later : any (eqb (first l)) ns ≡ true = first-listed l ns z (and_right (any (eqb t.1) ns) (all (λ u. any (eqb u.1) ns) l) h) in
    by_test t.0 (λ g. rw g here) (λ g. rw g later)

-- listed without 1, and so listed with it, and not 1
with_one : (n : ℕ) (ns : List ℕ) → any (eqb n) ns ≡ true → any (eqb n) (1 ∷ ns) ≡ true
with_one n ns = by_test (eqb n 1) (λ g. rw g (λ h. refl)) (λ g. rw g (λ h. h))

with_zero_one : (n : ℕ) (ns : List ℕ) → any (eqb n) (0 ∷ ns) ≡ true → any (eqb n) (0 ∷ 1 ∷ ns) ≡ true
with_zero_one n ns = by_test (eqb n 0) (λ g. rw g (λ h. refl)) (λ g. rw g (with_one n ns))

module _ (read : Bytes → ℕ → Reading) where
  -- the tests of the other numbers than 1
  abbrev others : Bytes → Call → List (Bool × ℕ)
  others s (datagram now unix address udp key bytes) =
      datagram_refusals (env_of read s) (clock_of s) (bucket_for read s key) now address udp key (read bytes unix)
  others s (ping_sent now key address udp tcp hash) = ping_sent_refusals (env_of read s) (clock_of s) (bucket_for read s key) now key address udp hash
  others s (sweep now) = (ltb now (clock_of s), 2) ∷ []
  others s (closest target room) = (not (eqb (length target) 64), 5) ∷ (ltb room 16, 19) ∷ []
  others s (unclocked c) = (true, 2) ∷ []

  answer-is : (s : Bytes) (c : Call) → answer_on read s c ≡ cond (unsound_on read s c) 1 (first (others s c))
  unfolding answer_on
  answer-is s (datagram now unix address udp key bytes) = refl
  answer-is s (ping_sent now key address udp tcp hash) = refl
  answer-is s (sweep now) = refl
  answer-is s (closest target room) = refl
  answer-is s (unclocked c) = refl

  abbrev others_of : Call → List ℕ
  others_of (datagram now unix address udp key bytes) = 0 ∷ drop 2 (numbers_of (datagram now unix address udp key bytes))
  others_of (ping_sent now key address udp tcp hash) = 0 ∷ drop 2 (numbers_of (ping_sent now key address udp tcp hash))
  others_of (sweep now) = 0 ∷ drop 2 (numbers_of (sweep now))
  others_of (closest target room) = 0 ∷ drop 2 (numbers_of (closest target room))
  others_of (unclocked c) = drop 1 (numbers_of (unclocked c))

  with-others : (c : Call) (n : ℕ) → any (eqb n) (others_of c) ≡ true → any (eqb n) (numbers_of c) ≡ true
  with-others (datagram now unix address udp key bytes) n = with_zero_one n (drop 2 (numbers_of (datagram now unix address udp key bytes)))
  with-others (ping_sent now key address udp tcp hash) n = with_zero_one n (drop 2 (numbers_of (ping_sent now key address udp tcp hash)))
  with-others (sweep now) n = with_zero_one n (drop 2 (numbers_of (sweep now)))
  with-others (closest target room) n = with_zero_one n (drop 2 (numbers_of (closest target room)))
  with-others (unclocked c) n = with_one n (drop 1 (numbers_of (unclocked c)))

  datagram-listed : (e : Env) (clock : ℕ) (b : Contents) (now unix : ℕ) (address : Bytes) (udp : ℕ) (key bytes : Bytes) (r : Reading)
      → all (λ t. any (eqb t.1) (others_of (datagram now unix address udp key bytes))) (datagram_refusals e clock b now address udp key r) ≡ true
  unfolding datagram_refusals
  datagram-listed e clock b now unix address udp key bytes (refused fault) = refl
  datagram-listed e clock b now unix address udp key bytes ping = refl
  datagram-listed e clock b now unix address udp key bytes (pong hash) = refl
  datagram-listed e clock b now unix address udp key bytes other = refl

  others-listed : (s : Bytes) (c : Call) → any (eqb (first (others s c))) (others_of c) ≡ true
  unfolding ping_sent_refusals
  others-listed s (datagram now unix address udp key bytes) =
      first-listed (others s (datagram now unix address udp key bytes)) (others_of (datagram now unix address udp key bytes)) refl
      (datagram-listed (env_of read s) (clock_of s) (bucket_for read s key) now unix address udp key bytes (read bytes unix))
  others-listed s (ping_sent now key address udp tcp hash) =
      first-listed (others s (ping_sent now key address udp tcp hash)) (others_of (ping_sent now key address udp tcp hash)) refl refl
  others-listed s (sweep now) = first-listed (others s (sweep now)) (others_of (sweep now)) refl refl
  others-listed s (closest target room) = first-listed (others s (closest target room)) (others_of (closest target room)) refl refl
  others-listed s (unclocked c) = refl

  one-listed : (c : Call) → any (eqb 1) (numbers_of c) ≡ true
  one-listed (datagram now unix address udp key bytes) = refl
  one-listed (ping_sent now key address udp tcp hash) = refl
  one-listed (sweep now) = refl
  one-listed (closest target room) = refl
  one-listed (unclocked c) = refl

  pub number_listed : (s : Bytes) (c : Call) → any (eqb (answer_on read s c)) (numbers_of c) ≡ true
  number_listed s c =
      rw (answer-is s c)
      (by_test (unsound_on read s c)
      (λ h. rw h (one-listed c))
      (λ h. rw h (with-others c (first (others s c)) (others-listed s c))))

  -- ---- 1

  one_free : (c : Call) → any (eqb 1) (others_of c) ≡ false
  one_free (datagram now unix address udp key bytes) = refl
  one_free (ping_sent now key address udp tcp hash) = refl
  one_free (sweep now) = refl
  one_free (closest target room) = refl
  one_free (unclocked c) = refl

  others-not-one : (s : Bytes) (c : Call) → first (others s c) ≡ 1 → ⊥
  others-not-one s c h = never (sym (others-listed s c) ∙ ap (λ n. any (eqb n) (others_of c)) h ∙ one_free c)

  touched : (s key : Bytes) → (touches read s key ≡ true) ↔ IsTouched read s key
  touched s key =
      let whole = eqb (length key) 64 in
      let own_key = is_own (env_of read s) key in
      let kept_key = is_kept (env_of read s) key in (
        (λ h.
            let rest = and_right whole (not own_key && kept_key) h in
            (eqb-true (length key) 64 (and_left whole (not own_key && kept_key) h), not-true own_key (and_left (not own_key) kept_key rest), and_right (not own_key) kept_key rest)),
        (λ h. rw (eq-eqb (length key) 64 h.0, h.1, h.2) refl),
      )

  -- 1 applies where something that the call touches is not sound
  key-sound : (s key : Bytes) → SoundForKey read s key ↔ (unsound_for read s key ≡ false)
  key-sound s key =
      let tests = both_sound (header_sound s) (touches read s key) (bucket_sound s (slot (env_of read s) key)) in (
        (λ h. tests.0 (h.0, λ t. h.1 ((touched s key).0 t))),
        (λ h. ((tests.1 h).0, λ t. (tests.1 h).1 ((touched s key).1 t))),
      )

  unsound-exactly : (s : Bytes) (c : Call) → SoundFor read s c ↔ (unsound_on read s c ≡ false)
  unsound-exactly s (datagram now unix address udp key bytes) = key-sound s key
  unsound-exactly s (ping_sent now key address udp tcp hash) = key-sound s key
  unsound-exactly s (sweep now) = ((λ h. ap not h), (λ h. not-false (table_sound s) h))
  unsound-exactly s (closest target room) = ((λ h. ap not h), (λ h. not-false (table_sound s) h))
  unsound-exactly s (unclocked c) = unsound-exactly s c

  pub one-exactly : (s : Bytes) (c : Call) → (answer_on read s c ≡ 1) ↔ (SoundFor read s c → ⊥)
  one-exactly s c = (
    (λ one. λ sound. others-not-one s c (rw (answer-is s c, (unsound-exactly s c).0 sound) at one)),
    (λ no-sound. by_test (unsound_on read s c) (λ h. rw (answer-is s c, h) refl) (λ h. absurd (no-sound ((unsound-exactly s c).1 h)))),
  )
