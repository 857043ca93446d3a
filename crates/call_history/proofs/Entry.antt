-- A node loses its entry exactly at an accepted sweep more than `ping_timeout` after an open ping.
use Prim.Native.Nat.{ℕ, ◌+◌, ◌-◌, ◌<◌}
use mathlib.Core.Path.{◌≡◌, refl, ap}
use mathlib.Core.Logic.{◌⊎◌, inl, inr, ⊎_elim}
use mathlib.Core.Bool.{true, false}
use mathlib.Core.List.{List, [], ◌∷◌}
use native.Mathlib.Omega.{arith}
use borrow.Author.Tests.{ltb-true, ltb-false, lt-ltb, not-false}
use lib.Dec.{ltb}
use lib.ListN.{length, length-append, length-map}
use Rattle.octets.specs.Octets.{Bytes, same_bytes}
use Rattle.octets.proofs.Laws.{same_eq}
use Rattle.lists.specs.Lists.{select, empty, All}
use Rattle.lists.proofs.Laws.{by_test, never, empty-append, failing, select-none, All-select}
use Rattle.entry.specs.declared.Entry.{Entry}
use Rattle.entry.specs.declared.PingState.{PingState}
use Rattle.entry.specs.declared.PingState.TheVariants.{Quiet, Out}
use Rattle.bucket_model.specs.Contents.{Contents}
use Rattle.bucket_model.specs.Rules.{takes_entry, ping_timeout, millis, of_key, is_of, held, is_proved, is_overdue, pinged, ponged, heard, stays_entry, on_ping_sent, on_pong, on_heard}
use Rattle.bucket_model.proofs.View.{Mapped, own-heard, own-pong-stays, own-pong-takes, own-pinged, sweep-entry}
use Rattle.call_history.specs.Model.{Env, Reading, Call, datagram, ping_sent, sweep, closest, unclocked, Table, slot, home_at, bucket_of, Accepted, on_datagram, next, Run}
use Rattle.call_history.specs.Words.{entry_of, HasEntry, AcceptedSweep, OpenPing}
use Rattle.call_history.specs.Demand3.{LosesEntry}
use Rattle.call_history.proofs.Step.{by_datagram, by_answer, swept_bucket}
use Rattle.call_history.proofs.Sound.{TableSound}
use Rattle.call_history.proofs.View as View
use Rattle.call_history.proofs.Log.{Known, KnownIn}

-- ---- a node's own packets and pings leave it its entry

module _ (now : ℕ) (key : Bytes) (b : Contents) where
  pub count-mapped : (f : Entry → Entry) (c : Contents) → Mapped now key b f c → length (of_key key c.entries) ≡ length (of_key key b.entries)
  count-mapped f c h = rw h.entries (simp length-map)

  pub ping_sent_keeps : (address : Bytes) (udp tcp : ℕ) (hash : Bytes)
      → empty (held key b) ≡ false → length (of_key key (on_ping_sent now key address udp tcp hash b).entries) ≡ length (of_key key b.entries)
  ping_sent_keeps address udp tcp hash g =
      count-mapped (pinged now hash) (on_ping_sent now key address udp tcp hash b) (own-pinged now key b address udp tcp hash g)

  module _ (has : 0 < length (of_key key b.entries)) where
    abbrev Has : Contents → Type 0
    Has c = 0 < length (of_key key c.entries)

    pub is_held : empty (held key b) ≡ false
    is_held =
        by_test (empty (held key b))
        (λ g. absurd (omega (arith, (empty-append (of_key key b.entries) (of_key key b.replacements) g).0)))
        (λ g. g)

    pub ping_sent_has : (address : Bytes) (udp tcp : ℕ) (hash : Bytes) → Has (on_ping_sent now key address udp tcp hash b)
    ping_sent_has address udp tcp hash = omega (arith, ping_sent_keeps address udp tcp hash is_held)

    pong-has : Has (on_pong now key b)
    pong-has =
        by_test (takes_entry key b)
        (λ g. rw (own-pong-takes now key b g).entries
        (simp (length-append, length-map) (omega arith)))
        (λ g. omega (arith, count-mapped (ponged now) (on_pong now key b) (own-pong-stays now key b g)))

    pub datagram-has : (address : Bytes) (udp : ℕ) (r : Reading) → Has (on_datagram now address udp key r b)
    datagram-has address udp r =
        by_datagram Has now address udp key r b
        (λ _. has)
        (λ _. omega (arith, count-mapped (heard now) (on_heard now key b) (own-heard now key b)))
        (λ _. pong-has)

-- ---- a ping and a sweep

overdue_out : (t : ℕ) (pi : PingState) → is_overdue t pi ≡ true → (t₀ : ℕ) × (pi ≡ Out (millis t₀)) × (t₀ + ping_timeout < t)
overdue_out t Quiet h = never (let z : true ≡ false = cc in z)
overdue_out t (Out t₀) h = (t₀.0, refl, omega (arith, ltb-true ping_timeout (t - t₀.0) h))

out_overdue : (t t₀ : ℕ) (p : Entry) → p.ping ≡ Out (millis t₀) → t₀ + ping_timeout < t → stays_entry t p ≡ false
out_overdue t t₀ p h g = rw (h, lt-ltb ping_timeout (t - t₀) (omega arith))

module _ (e : Env) (s : Table) (ok : TableSound e s) (X : Bytes) (has : HasEntry e X s) where
  -- only an accepted sweep takes the entry
  pub keeps_entry : (c : Call) → HasEntry e X (next e s c) ⊎ ((t : ℕ) × AcceptedSweep e s c t)
  keeps_entry (datagram now unix address udp key bytes) =
      inl (by_test (same_bytes X key)
      (λ h.
      let own : HasEntry e key s = rw (same_eq X key h) at has in
      rw (same_eq X key h)
      (View.own-datagram e s ok.sized (λ b. 0 < length (of_key key b.entries)) now unix address udp key bytes
      (λ _. datagram-has now key (bucket_of e s key) own address udp (e.read bytes unix)) (λ _. own)))
      (λ h. rw (View.other-datagram e s ok.sized X key h now unix address udp bytes).entries has))
  keeps_entry (ping_sent now key address udp tcp hash) =
      inl (by_test (same_bytes X key)
      (λ h.
      let own : HasEntry e key s = rw (same_eq X key h) at has in
      rw (same_eq X key h)
      (View.own_ping_sent e s ok.sized (λ b. 0 < length (of_key key b.entries)) now key address udp tcp hash
      (λ _. ping_sent_has now key (bucket_of e s key) own address udp tcp hash) (λ _. own)))
      (λ h. rw (View.other_ping_sent e s ok.sized X key h now address udp tcp hash).entries has))
  keeps_entry (sweep now) =
      by_answer e (λ s'. HasEntry e X s' ⊎ ((t : ℕ) × AcceptedSweep e s (sweep now) t)) s (sweep now)
      (λ a. inr (now, (refl, a)))
      (λ _. inl has)
  keeps_entry (closest target room) =
      inl (by_answer e (λ s'. HasEntry e X s') s (closest target room) (λ _. has) (λ _. has))
  keeps_entry (unclocked c) = inl has

  -- what an accepted sweep leaves of the entry
  pub swept-entry : (now : ℕ) → Accepted e s (sweep now) → entry_of e X (next e s (sweep now)) ≡ select (stays_entry now) (entry_of e X s)
  swept-entry now a =
      by_answer e (λ s'. entry_of e X s' ≡ select (stays_entry now) (entry_of e X s)) s (sweep now)
      (λ _. rw (swept_bucket e s now (slot e X)) (sweep-entry X now (bucket_of e s X) (home_at e (slot e X)) s.clock (ok.each (slot e X)) has))
      (λ rejected. absurd (rejected a))

module _ (e : Env) (r : Run e) (ok : TableSound e r.table) (known : (X : Bytes) → KnownIn e X r.log (bucket_of e r.table X)) where
  module _ (X : Bytes) (has : HasEntry e X r.table) (t : ℕ) (a : Accepted e r.table (sweep t)) where
    taken-overdue : (HasEntry e X (next e r.table (sweep t)) → ⊥) → (t₀ : ℕ) × OpenPing e X t₀ r.log × (t₀ + ping_timeout < t)
    taken-overdue gone =
        let left = ap length (swept-entry e r.table ok X has t a) in
        let lost = failing (Known e X r.log) (stays_entry t) (entry_of e X r.table) (known X).0 has (omega arith) in
        let late = overdue_out t lost.0.ping (not-false (is_overdue t lost.0.ping) lost.2) in
        (late.0, lost.1.recorded late.0 late.1, late.2)

    all-overdue : (t₀ : ℕ) → OpenPing e X t₀ r.log → t₀ + ping_timeout < t → (l : List Entry)
        → All (Known e X r.log) l → All (λ p. is_proved p.proof ≡ true) l → All (λ p. stays_entry t p ≡ false) l
    all-overdue t₀ o h [] k p = tt
    all-overdue t₀ o h (p ∷ l) k pr = (out_overdue t t₀ p (k.0.only pr.0 t₀ o) h, all-overdue t₀ o h l k.1 pr.1)

    overdue-taken : (t₀ : ℕ) → OpenPing e X t₀ r.log → t₀ + ping_timeout < t → HasEntry e X (next e r.table (sweep t)) → ⊥
    overdue-taken t₀ o h after =
        let was = entry_of e X r.table in
        let is-proved = All-select (λ p. is_proved p.proof ≡ true) (is_of X) (bucket_of e r.table X).entries (ok.each (slot e X)).entries_proved in
        omega (
          arith,
          ap length (swept-entry e r.table ok X has t a),
          select-none (stays_entry t) was (all-overdue t₀ o h was (known X).0 is-proved),
        )

  pub loses-entry : (c : Call) → LosesEntry e r c
  loses-entry c X has = (
    λ gone. ⊎_elim (λ kept. absurd (gone kept))
        (λ swept.
        let t = swept.0 in
        let is : c ≡ sweep t = swept.1.0 in
        (t, swept.1, taken-overdue X has t (rw is at swept.1.1) (rw is at gone)))
        (keeps_entry e r.table ok X has c),
    λ late after.
        let t = late.0 in
        let is : c ≡ sweep t = late.1.0 in
        overdue-taken X has t (rw is at late.1.1) late.2.0 late.2.1 late.2.2 (rw is at after),
  )
