-- A line puts a node at the tail exactly where demand 3 has it so. Assumes nothing.
use Prim.Native.Nat.{ℕ}
use mathlib.Core.Path.{◌≡◌, refl}
use mathlib.Core.Bool.{Bool, true, false, not, ◌&&◌, ◌||◌, and-false, or-false}
use mathlib.Core.List.{List, [], append-nil}
use native.Mathlib.Omega.{arith}
use lib.Dec.{eqb}
use Rattle.octets.specs.Octets.{Bytes, same_bytes}
use Rattle.octets.proofs.Laws.{same_eq, same_refl}
use Rattle.lists.specs.Lists.{any, empty, All}
use Rattle.lists.proofs.Laws.{by_test, nil}
use Rattle.bucket_model.specs.Rules.{is_verified, held}
use Rattle.call_history.specs.Model.{Env, Call, datagram, ping_sent, sweep, closest, unclocked, Table, bucket_of, slot, answer}
use Rattle.call_history.specs.Words.{is_pong, entry_of, replacement_of, pong_from, heard_from}
use Rattle.call_history.proofs.Sound.{TableSound}
use Rattle.log_history.specs.Past.{Asked, own, call, unreadable, Stage, before, running, stage_after, Moment}
use Rattle.log_history.specs.Why.{seat_in, moves_by, tails, tails_at}
use Rattle.log_history.proofs.Step.{SoundStage, at}
use Rattle.log_history.proofs.Held.{empty-is, not_empty, unheld-not-seated}
use Rattle.log_history.proofs.Says.{Ran, start, then, ran_sound}

-- no line both finds and loses
none_gained : (b : Bool) → ((b && not b) || false) ≡ false
none_gained true = refl
none_gained false = refl

-- a pong, or another packet of a verified node
pong_or_heard : (accepted is-pong verified : Bool)
    → (accepted && (is-pong || verified)) ≡ ((is-pong && accepted) || (not is-pong && (accepted && not (not verified))))
pong_or_heard true true verified = refl
pong_or_heard true false true = refl
pong_or_heard true false false = refl
pong_or_heard false true verified = refl
pong_or_heard false false verified = refl

module _ (e : Env) (s : Table) (ok : TableSound e s) where
  -- a node without an entry isn't moved
  unmoved : (X : Bytes) → empty (entry_of e X s) ≡ true → (c : Call) → moves_by X e s c ≡ false
  unmoved X g (datagram now unix address udp key bytes) = rw g (simp and-false)
  unmoved X g (ping_sent now key address udp tcp hash) = refl
  unmoved X g (sweep now) = refl
  unmoved X g (closest target room) = refl
  unmoved X g (unclocked c) = refl

  -- of a node with an entry, the entry is all that is held
  held-seat : (X : Bytes) → empty (entry_of e X s) ≡ false → held X (bucket_of e s X) ≡ entry_of e X s
  held-seat X g =
      let has = not_empty (entry_of e X s) g in
      let none : replacement_of e X s ≡ [] = nil (replacement_of e X s) (omega (arith, (ok.each (slot e X)).once X)) in
      rw (none, append-nil)

  own-moved : (now unix : ℕ) (address : Bytes) (udp : ℕ) (key bytes : Bytes) → empty (entry_of e key s) ≡ false
      → moves_by key e s (datagram now unix address udp key bytes)
      ≡ (pong_from e key s (datagram now unix address udp key bytes) || heard_from e key s (datagram now unix address udp key bytes))
  own-moved now unix address udp key bytes g =
      let c = datagram now unix address udp key bytes in
      rw (same_refl key, held-seat key g, g)
      (pong_or_heard (eqb (answer e s c) 0) (is_pong (e.read bytes unix)) (any (is_verified now address udp) (entry_of e key s)))

  moved : (X : Bytes) → empty (entry_of e X s) ≡ false → (c : Call) → moves_by X e s c ≡ (pong_from e X s c || heard_from e X s c)
  moved X g (datagram now unix address udp key bytes) =
      by_test (same_bytes X key)
      (λ h. rw (same_eq X key h) (own-moved now unix address udp key bytes (rw (same_eq X key h) at g)))
      (λ h. rw h)
  moved X g (ping_sent now key address udp tcp hash) = refl
  moved X g (sweep now) = refl
  moved X g (closest target room) = refl
  moved X g (unclocked c) = refl

  tails-call : (X : Bytes) (c : Call) → tails X (at (running e s) (call c)) ≡ tails_at X (running e s) (call c)
  unfolding stage_after
  tails-call X c =
      by_test (empty (entry_of e X s))
      (λ g. rw (unmoved X g c, g) (or-false _))
      (λ g. rw g (moved X g c))

tails_line : (X : Bytes) (st : Stage) (a : Asked) → SoundStage st → tails X (at st a) ≡ tails_at X st a
unfolding stage_after
tails_line X (before owned) a ok = rw (empty-is (seat_in X (stage_after (before owned) a)) (unheld-not-seated X (before owned) a tt refl))
tails_line X (running e s) (own buckets key) ok = none_gained (empty (entry_of e X s))
tails_line X (running e s) (call c) ok = tails-call e s ok X c
tails_line X (running e s) unreadable ok = none_gained (empty (entry_of e X s))

pub tails_as : (X : Bytes) (st : Stage) (log : List Moment) → Ran st log → All (λ v. tails X v ≡ tails_at X v.given v.asks) log
tails_as X st log start = tt
tails_as X st log (then {st = st₀} {log = log₀} a r) = (tails_line X st₀ a (ran_sound r), tails_as X st₀ log₀ r)
