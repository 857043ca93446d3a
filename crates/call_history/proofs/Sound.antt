-- "A fresh table is sound for every own key and every B, and every accepted call leaves a sound table sound"; and a table whose
-- values have a byte form keeps one, where the calls' arguments are values of their types.
use Prim.Native.Nat.{ℕ, ◌<◌, ◌≤◌, ◌^◌}
use mathlib.Core.Path.{◌≡◌, ◌∙◌}
use mathlib.Core.List.{List, [], ◌∷◌}
use native.Mathlib.Omega.{arith}
use borrow.Author.Tests.{ltb-true, ltb-false}
use lib.Dec.{ltb}
use lib.ListN.{length, length-map, length-replicate, get_or-eq_default}
use Rattle.lists.proofs.Laws.{by_test, length-modify, All-imp}
use Rattle.entry.specs.declared.Entry.{Entry}
use Rattle.entry.proofs.Laws.{IsEntry}
use Rattle.bucket_model.specs.Contents.{no_contents}
use Rattle.bucket_model.specs.Rules.{on_ping_sent, on_sweep}
use Rattle.bucket_model.proofs.Every.{Every}
use Rattle.bucket_model.proofs.ByteForm.{IsContents}
use Rattle.bucket_model.proofs.Values.{sound-contents, values_ping_sent, values-pong, values-heard, values-sweep}
use Rattle.bucket_model.proofs.Sound.{EntrySound, BucketSound}
use Rattle.bucket_model.proofs.Kept.{sound-later, sound-fresh, sound_ping_sent, sound-pong, sound-heard, sound-sweep}
use Rattle.call_history.specs.Model.{Env, Lawful, Call, datagram, ping_sent, sweep, closest, unclocked, Table, slot, home_at, fresh, bucket_at, bucket_of, Accepted, on_datagram, effect, next, table_after_all}
use Rattle.call_history.specs.Words.{OwnBucket}
use Rattle.call_history.specs.Chain.{IsCall}
use Rattle.call_history.proofs.Step.{by_datagram, by_answer, home-own, slot-home, datagram-keyed, ping-allowed, sweep-in-time, by_bucket, swept_bucket, fresh-bucket}

module _ (e : Env) where
  pub record TableSound (s : Table) : Type 0 where
    pub lawful : Lawful e
    pub sized : length s.buckets ≡ e.kept
    pub each : (i : ℕ) → BucketSound (home_at e i) s.clock (bucket_at e s i)

  -- every node stands in its own bucket
  pub own-buckets : (s : Table) → TableSound s → (i : ℕ) → Every (λ p. OwnBucket e i p.key) (bucket_at e s i)
  own-buckets s ok i =
      let b = bucket_at e s i in
      let own : (p : Entry) → EntrySound (home_at e i) s.clock p → OwnBucket e i p.key =
      λ p sp. home-own e ok.lawful p.key i sp.at_home in (
        All-imp (EntrySound (home_at e i) s.clock) (λ p. OwnBucket e i p.key) own b.entries (ok.each i).entries_sound,
        All-imp (EntrySound (home_at e i) s.clock) (λ p. OwnBucket e i p.key) own b.replacements (ok.each i).replacements_sound,
      )

  no-bucket : (s : Table) (i : ℕ) → length s.buckets ≤ i → bucket_at e s i ≡ no_contents
  no-bucket s i h = get_or-eq_default s.buckets no_contents h

  -- values that a table's bytes can hold
  pub record IsTable (s : Table) : Type 0 where
    pub clock : s.clock < 2 ^ 64
    pub each : (i : ℕ) → Every IsEntry (bucket_at e s i)

  -- a table is sound where each bucket kept is
  pub table-sound : Lawful e → (s : Table) → length s.buckets ≡ e.kept
      → ((i : ℕ) → i < e.kept → BucketSound (home_at e i) s.clock (bucket_at e s i)) → TableSound s
  table-sound law s sized each =
      record {
        lawful = law;
        sized = sized;
        each = λ i.
            by_test (ltb i e.kept)
            (λ h. each i (ltb-true i e.kept h))
            (λ h. rw (no-bucket s i (omega (arith, ltb-false i e.kept h))) (sound-fresh (home_at e i) s.clock));
      }

  -- a sound table's buckets are contents that have a byte form
  pub table-contents : (s : Table) → TableSound s → IsTable s → (i : ℕ) → IsContents (bucket_at e s i)
  table-contents s ok values i = sound-contents (home_at e i) s.clock (bucket_at e s i) (ok.each i) (values.each i)

  -- ---- fresh

  pub fresh_sound : Lawful e → TableSound (fresh e)
  fresh_sound law =
      record {
        lawful = law;
        sized = length-replicate e.kept no_contents;
        each = λ i. rw (fresh-bucket e i) (sound-fresh (home_at e i) 0);
      }

  pub fresh-values : IsTable (fresh e)
  fresh-values = record { clock = omega arith; each = λ i. rw (fresh-bucket e i) (tt, tt) }

  -- ---- a call

  module _ (s : Table) (ok : TableSound s) where
    -- a bucket at a later clock
    later : (now : ℕ) → s.clock ≤ now → (i : ℕ) → BucketSound (home_at e i) now (bucket_at e s i)
    later now h i = sound-later (home_at e i) s.clock now (bucket_at e s i) h (ok.each i)

    effect-sound : (c : Call) → Accepted e s c → TableSound (effect e s c)
    effect-sound (datagram now unix address udp key bytes) h =
        let r = e.read bytes unix in
        let b = bucket_of e s key in
        let keyed = datagram-keyed e s now unix address udp key bytes h in
        let home = home_at e (slot e key) in
        let was = later now keyed.in_time in
        record {
          lawful = ok.lawful;
          sized = length-modify (slot e key) (on_datagram now address udp key r) s.buckets ∙ ok.sized;
          each =
              by_bucket e s ok.sized now key (on_datagram now address udp key r) keyed.is_kept (λ i. BucketSound (home_at e i) now)
              (by_datagram (BucketSound home now) now address udp key r b
              (λ _. was (slot e key))
              (λ _. sound-heard home now key b (was (slot e key)))
              (λ _. sound-pong home now key b (was (slot e key))))
              (λ i _. was i);
        }
    effect-sound (ping_sent now key address udp tcp hash) h =
        let allowed = ping-allowed e s now key address udp tcp hash h in
        let keyed = allowed.keyed in
        let was = later now keyed.in_time in
        record {
          lawful = ok.lawful;
          sized = length-modify (slot e key) (on_ping_sent now key address udp tcp hash) s.buckets ∙ ok.sized;
          each =
              by_bucket e s ok.sized now key (on_ping_sent now key address udp tcp hash) keyed.is_kept (λ i. BucketSound (home_at e i) now)
              (sound_ping_sent (home_at e (slot e key)) now key address udp tcp hash (bucket_of e s key) (was (slot e key))
              (slot-home e ok.lawful key keyed.not_own keyed.is_kept) keyed.address-form allowed.room)
              (λ i _. was i);
        }
    effect-sound (sweep now) h =
        record {
          lawful = ok.lawful;
          sized = length-map s.buckets (on_sweep now) ∙ ok.sized;
          each = λ i. rw (swept_bucket e s now i) (sound-sweep (home_at e i) now (bucket_at e s i) (later now (sweep-in-time e s now h) i));
        }
    effect-sound (closest target room) h = ok
    effect-sound (unclocked c) h = ok

    pub next-sound : (c : Call) → TableSound (next e s c)
    next-sound c = by_answer e TableSound s c (effect-sound c) (λ _. ok)

    module _ (values : IsTable s) where
      effect-values : (c : Call) → IsCall c → Accepted e s c → IsTable (effect e s c)
      effect-values (datagram now unix address udp key bytes) is h =
          let r = e.read bytes unix in
          let b = bucket_of e s key in
          let was = values.each (slot e key) in
          record {
            clock = is.0;
            each =
                by_bucket e s ok.sized now key (on_datagram now address udp key r)
                (datagram-keyed e s now unix address udp key bytes h).is_kept (λ i. Every IsEntry)
                (by_datagram (Every IsEntry) now address udp key r b
                (λ _. was)
                (λ _. values-heard now is.0 b was key)
                (λ _. values-pong now is.0 b was key))
                (λ i _. values.each i);
          }
      effect-values (ping_sent now key address udp tcp hash) is h =
          let allowed = ping-allowed e s now key address udp tcp hash h in
          let keyed = allowed.keyed in
          record {
            clock = is.0;
            each =
                by_bucket e s ok.sized now key (on_ping_sent now key address udp tcp hash) keyed.is_kept (λ i. Every IsEntry)
                (values_ping_sent now is.0 (bucket_of e s key) (values.each (slot e key)) key address udp tcp hash
                keyed.whole keyed.address-form is.3 is.4 allowed.hash-whole)
                (λ i _. values.each i);
          }
      effect-values (sweep now) is h =
          record {
            clock = is;
            each = λ i. rw (swept_bucket e s now i) (values-sweep now is (bucket_at e s i) (values.each i));
          }
      effect-values (closest target room) is h = values
      effect-values (unclocked c) is h = values

      pub next-values : (c : Call) → IsCall c → IsTable (next e s c)
      next-values c is = by_answer e IsTable s c (effect-values c is) (λ _. values)

  -- every list of calls leaves a sound table
  pub sound-after : (s : Table) (cs : List Call) → TableSound s → TableSound (table_after_all e s cs)
  sound-after s [] ok = ok
  sound-after s (c ∷ cs) ok = sound-after (next e s c) cs (next-sound s ok c)
