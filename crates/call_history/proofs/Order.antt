-- A line is in the order in which its nodes' stays began.
use Prim.Native.Nat.{ℕ, ◌<◌, ◌≤◌}
use mathlib.Core.Path.{◌≡◌, refl, ap, sym, ◌∙◌}
use mathlib.Core.Bool.{Bool, true, false, and-false}
use mathlib.Core.List.{List, [], ◌∷◌}
use native.Mathlib.Omega.{arith}
use borrow.Author.Tests.{ne_eqb, eq-eqb}
use lib.ListN.{length}
use Rattle.octets.specs.Octets.{Bytes, same_bytes}
use Rattle.octets.proofs.Laws.{same_eq, same_refl}
use Rattle.lists.specs.Lists.{empty, All, Rising}
use Rattle.lists.proofs.Laws.{by_test, never, empty-append, All-imp, All-every, Rising-imp}
use Rattle.entry.specs.declared.Entry.{Entry}
use Rattle.bucket_model.specs.Contents.{Contents}
use Rattle.bucket_model.specs.Rules.{is_of, of_key, held, on_ping_sent}
use Rattle.bucket_model.proofs.Promotion.{Below, rising-heard, rising-pong, rising_ping_sent, rising-sweep}
use Rattle.call_history.specs.Model.{Env, Call, datagram, ping_sent, sweep, closest, unclocked, Table, slot, bucket_at, bucket_of, answer, Accepted, on_datagram, next, Event, Run, advance}
use Rattle.call_history.specs.Words.{OwnBucket, latest, begins, began}
use Rattle.call_history.specs.Demand3.{InOrder}
use Rattle.call_history.proofs.Step.{by_datagram, by_answer, datagram-keyed, ping-allowed, by_bucket, swept_bucket}
use Rattle.call_history.proofs.Sound.{TableSound, own-buckets}

pub other_key : (key X : Bytes) → same_bytes key X ≡ false → same_bytes X key ≡ false
other_key key X h = by_test (same_bytes X key) (λ g. never (sym (rw (same_eq X key g) (same_refl key)) ∙ h)) (λ g. g)

none_of : (key : Bytes) (l : List Entry) → length (of_key key l) ≡ 0 → All (λ p. is_of key p ≡ false) l
none_of key [] = λ h. tt
none_of key (p ∷ l) =
    by_test (is_of key p)
    (λ g. rw g (λ h. absurd (omega arith)))
    (λ g. rw g (λ h. (refl, none_of key l h)))

module _ (e : Env) where
  pub latest-le : (q : Event e → Bool) (log : List (Event e)) → latest e q log ≤ length log
  latest-le q [] = omega arith
  latest-le q (v ∷ log) =
      by_test (q v)
      (λ h. rw h (omega arith))
      (λ h. rw h (omega (arith, latest-le q log)))

  -- a call that puts none of these nodes into a line leaves their order
  kept-order : (v : Event e) (log : List (Event e)) (l : List Entry) → All (λ p. begins e p.key v.given v.call ≡ false) l
      → Rising (Below (began e log)) l → Rising (Below (began e (v ∷ log))) l
  kept-order v log =
      Rising-imp (Below (began e log)) (Below (began e (v ∷ log))) (λ p. begins e p.key v.given v.call ≡ false)
      (λ p q hp hq h. rw (hp, hq) h)

  -- another bucket than the key's holds no entry of the key
  pub none-away : (key : Bytes) (i : ℕ) → (i ≡ slot e key → ⊥) → (l : List Entry) → All (λ p. OwnBucket e i p.key) l
      → All (λ p. is_of key p ≡ false) l
  none-away key i away =
      All-imp (λ p. OwnBucket e i p.key) (λ p. is_of key p ≡ false)
      (λ p own. by_test (is_of key p)
      (λ g. absurd (away (sym own.2 ∙ ap (slot e) (sym (same_eq key p.key g)))))
      (λ g. g))

  module _ (r : Run e) (ok : TableSound e r.table) (in_order : InOrder e r) where
    module _ (now : ℕ) (key address : Bytes) (udp tcp : ℕ) (hash : Bytes) where
      abbrev the_call : Call
      the_call = ping_sent now key address udp tcp hash

      abbrev the_event : Event e
      the_event = record { given = r.table; call = the_call }

      abbrev the_bucket : Contents
      the_bucket = bucket_of e r.table key

      abbrev after : Entry → Entry → Type 0
      after = Below (began e (the_event ∷ r.log))

      abbrev Stays : Entry → Type 0
      Stays p = begins e p.key r.table the_call ≡ false

      -- the entries of another key than the call's
      others : (l : List Entry) → All (λ p. is_of key p ≡ false) l → All Stays l
      others = All-imp (λ p. is_of key p ≡ false) Stays (λ p g. rw (other_key key p.key g))

      -- another bucket than the key's
      elsewhere : (i : ℕ) → (i ≡ slot e key → ⊥) → Rising after (bucket_at e r.table i).replacements
      elsewhere i away =
          let line = (bucket_at e r.table i).replacements in
          kept-order the_event r.log line (others line (none-away key i away line (own-buckets e r.table ok i).1)) (in_order i)

      -- the key's bucket: a held node begins no stay, and a new one stands behind all that do
      here : Accepted e r.table the_call → Rising after (on_ping_sent now key address udp tcp hash the_bucket).replacements
      here a =
          let line = the_bucket.replacements in
          let stay : All Stays line =
          by_test (empty (held key the_bucket))
          (λ new. others line (none_of key line (empty-append (of_key key the_bucket.entries) (of_key key line) new).1))
          (λ old. All-every Stays (λ p. rw old (simp and-false)) line) in
          rising_ping_sent (began e (the_event ∷ r.log)) now key the_bucket
          (kept-order the_event r.log line stay (in_order (slot e key)))
          address udp tcp hash
          (λ new.
          let put : begins e key r.table the_call ≡ true = rw (same_refl key, eq-eqb (answer e r.table the_call) 0 a, new) in
          All-imp Stays (λ p. began e (the_event ∷ r.log) p.key < began e (the_event ∷ r.log) key)
          (λ p g. rw (g, put) (omega (arith, latest-le (λ v. begins e p.key v.given v.call) r.log))) line stay)

      pinged-order : (i : ℕ) → Rising after (bucket_at e (next e r.table the_call) i).replacements
      pinged-order i =
          by_answer e (λ s'. Rising after (bucket_at e s' i).replacements) r.table the_call
          (λ a. by_bucket e r.table ok.sized now key (on_ping_sent now key address udp tcp hash)
          (ping-allowed e r.table now key address udp tcp hash a).keyed.is_kept (λ i b. Rising after b.replacements)
          (here a) elsewhere i)
          (λ rejected.
          kept-order the_event r.log (bucket_at e r.table i).replacements
          (All-every Stays (λ p. rw (ne_eqb (answer e r.table the_call) 0 rejected) (simp and-false)) (bucket_at e r.table i).replacements)
          (in_order i))

    abbrev InLine : Table → ℕ → Type 0
    InLine s i = Rising (Below (began e r.log)) (bucket_at e s i).replacements

    pub advance-order : (c : Call) → InOrder e (advance e r c)
    advance-order (datagram now unix address udp key bytes) i =
        let s = r.table in
        let reading = e.read bytes unix in
        let rank = began e r.log in
        let b = bucket_of e s key in
        by_answer e (λ s'. InLine s' i) s (datagram now unix address udp key bytes)
        (λ a. by_bucket e s ok.sized now key (on_datagram now address udp key reading)
        (datagram-keyed e s now unix address udp key bytes a).is_kept (λ i b. Rising (Below rank) b.replacements)
        (by_datagram (λ b. Rising (Below rank) b.replacements) now address udp key reading b
        (λ _. in_order (slot e key))
        (λ _. rising-heard rank now key b (in_order (slot e key)))
        (λ _. rising-pong rank now key b (in_order (slot e key))))
        (λ i _. in_order i) i)
        (λ _. in_order i)
    advance-order (ping_sent now key address udp tcp hash) i = pinged-order now key address udp tcp hash i
    advance-order (sweep now) i =
        by_answer e (λ s'. InLine s' i) r.table (sweep now)
        (λ a. rw (swept_bucket e r.table now i) (rising-sweep (began e r.log) now (bucket_at e r.table i) (in_order i)))
        (λ _. in_order i)
    advance-order (closest target room) i =
        by_answer e (λ s'. InLine s' i) r.table (closest target room) (λ _. in_order i) (λ _. in_order i)
    advance-order (unclocked c) i = in_order i
