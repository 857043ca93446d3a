-- What another key signed has no part in when a node next loses its entry.
use Prim.Native.Nat.{ℕ, ◌<◌, ◌≤◌}
use mathlib.Core.Path.{◌≡◌, refl, ap, sym, ◌∙◌}
use mathlib.Core.Bool.{true, false, cond}
use mathlib.Core.List.{List, [], ◌∷◌}
use native.Mathlib.Omega.{arith}
use borrow.Author.Tests.{le-ltb, eqb-true, ltb-true, ltb-false}
use lib.Dec.{eqb, ltb}
use lib.ListN.{length}
use Rattle.octets.specs.Octets.{Bytes, same_bytes}
use Rattle.octets.proofs.Laws.{same_eq}
use Rattle.lists.specs.Lists.{select, any}
use Rattle.lists.proofs.Laws.{by_test, nil}
use Rattle.entry.specs.declared.Entry.{Entry}
use Rattle.bucket_model.specs.Contents.{Contents}
use Rattle.bucket_model.specs.Rules.{takes_entry, of_key, held, is_verified, pinged, ponged, heard, stays_entry, on_ping_sent, on_pong}
use Rattle.bucket_model.proofs.View.{own-heard, own-pong-stays, own-pong-takes, own-pinged}
use Rattle.call_history.specs.Model.{Env, Reading, refused, ping, pong, other, Call, datagram, ping_sent, sweep, closest, unclocked, Table, slot, bucket_of, packet_refusals, datagram_refusals, ping_sent_refusals, answer, Accepted, on_packet, on_datagram, effect, next, Run}
use Rattle.call_history.specs.Words.{entry_of, replacement_of, HasEntry}
use Rattle.call_history.specs.Demand3.{clock_reading, Rises, NotFalling, LeftOut, nothing, same, less, count_sweep, entry_lost_at, Isolated}
use Rattle.call_history.proofs.Step.{by_answer, own-bucket, datagram-keyed, ping-allowed, sweep-accepted}
use Rattle.call_history.proofs.Sound.{TableSound, next-sound}
use Rattle.call_history.proofs.View.{other-datagram, other_ping_sent}
use Rattle.call_history.proofs.Entry.{swept-entry}

-- ---- an entry after a call of its own key: a function of the entry alone

abbrev packet_entry : ℕ → Bytes → ℕ → Entry → Entry
packet_entry now address udp p = cond (any (is_verified now address udp) (p ∷ [])) (heard now p) p

abbrev datagram_entry : ℕ → Bytes → ℕ → Reading → Entry → Entry
datagram_entry now address udp (refused fault) p = p
datagram_entry now address udp ping p = packet_entry now address udp p
datagram_entry now address udp (pong hash) p = ponged now p
datagram_entry now address udp other p = packet_entry now address udp p

module _ (now : ℕ) (key : Bytes) (b : Contents) (p : Entry) (has : of_key key b.entries ≡ p ∷ []) (no_wait : of_key key b.replacements ≡ []) where
  held-is : held key b ≡ p ∷ []
  held-is = rw (has, no_wait)

  pong-entry : of_key key (on_pong now key b).entries ≡ ponged now p ∷ []
  pong-entry =
      by_test (takes_entry key b)
      (λ g. (own-pong-takes now key b g).entries ∙ rw (has, no_wait))
      (λ g. (own-pong-stays now key b g).entries ∙ rw has)

  packet-entry : (address : Bytes) (udp : ℕ) → of_key key (on_packet now address udp key b).entries ≡ packet_entry now address udp p ∷ []
  packet-entry address udp =
      rw held-is
      (by_test (any (is_verified now address udp) (p ∷ []))
      (λ g. rw g ((own-heard now key b).entries ∙ rw has))
      (λ g. rw g has))

  datagram-entry : (address : Bytes) (udp : ℕ) (r : Reading)
      → of_key key (on_datagram now address udp key r b).entries ≡ datagram_entry now address udp r p ∷ []
  datagram-entry address udp (refused fault) = has
  datagram-entry address udp ping = packet-entry address udp
  datagram-entry address udp (pong hash) = pong-entry
  datagram-entry address udp other = packet-entry address udp

  ping_sent_entry : (address : Bytes) (udp tcp : ℕ) (hash : Bytes)
      → of_key key (on_ping_sent now key address udp tcp hash b).entries ≡ pinged now hash p ∷ []
  ping_sent_entry address udp tcp hash = (own-pinged now key b address udp tcp hash (rw held-is)).entries ∙ rw has

-- ---- two tables in which a node has the same entry

-- in a sound table, X has the entry p
record At (e : Env) (X : Bytes) (p : Entry) (s : Table) : Type 0 where
  ok : TableSound e s
  has : entry_of e X s ≡ p ∷ []

at_entry : (e : Env) (X : Bytes) (p : Entry) (s : Table) → At e X p s → HasEntry e X s
at_entry e X p s a = rw a.has (omega arith)

no_wait : (e : Env) (X : Bytes) (p : Entry) (s : Table) → At e X p s → replacement_of e X s ≡ []
no_wait e X p s a = nil (replacement_of e X s) (omega (arith, (a.ok.each (slot e X)).once X, ap length a.has))

module _ (e : Env) (key : Bytes) (p : Entry) (s₁ s₂ : Table) (a₁ : At e key p s₁) (a₂ : At e key p s₂) where
  same_held : held key (bucket_of e s₁ key) ≡ held key (bucket_of e s₂ key)
  same_held = rw (a₁.has, a₂.has, no_wait e key p s₁ a₁, no_wait e key p s₂ a₂)

  same-refusals : (now : ℕ) (address : Bytes) (udp : ℕ) (r : Reading)
      → packet_refusals e now address udp key r (bucket_of e s₁ key) ≡ packet_refusals e now address udp key r (bucket_of e s₂ key)
  same-refusals now address udp (refused fault) = refl
  same-refusals now address udp ping = refl
  same-refusals now address udp (pong hash) = rw same_held
  same-refusals now address udp other = rw same_held

  module _ (now : ℕ) (t₁ : s₁.clock ≤ now) (t₂ : s₂.clock ≤ now) where
    datagram-answer : (unix : ℕ) (address : Bytes) (udp : ℕ) (bytes : Bytes)
        → answer e s₁ (datagram now unix address udp key bytes) ≡ answer e s₂ (datagram now unix address udp key bytes)
    unfolding datagram_refusals
    datagram-answer unix address udp bytes =
        rw (le-ltb now s₁.clock t₁, le-ltb now s₂.clock t₂, same-refusals now address udp (e.read bytes unix))

    ping_sent_answer : (address : Bytes) (udp tcp : ℕ) (hash : Bytes)
        → answer e s₁ (ping_sent now key address udp tcp hash) ≡ answer e s₂ (ping_sent now key address udp tcp hash)
    unfolding ping_sent_refusals
    ping_sent_answer address udp tcp hash =
        simp (le-ltb now s₁.clock t₁, le-ltb now s₂.clock t₂, a₁.has, a₂.has, no_wait e key p s₁ a₁, no_wait e key p s₂ a₂)

    -- both accept the call, or neither
    by_both : (c : Call) → answer e s₁ c ≡ answer e s₂ c
        → (Accepted e s₁ c → Accepted e s₂ c → entry_of e key (effect e s₁ c) ≡ entry_of e key (effect e s₂ c))
        → entry_of e key (next e s₁ c) ≡ entry_of e key (next e s₂ c)
    by_both c one f =
        by_test (eqb (answer e s₁ c) 0)
        (λ h.
        let h₂ : eqb (answer e s₂ c) 0 ≡ true = rw one at h in
        rw (h, h₂) (f (eqb-true (answer e s₁ c) 0 h) (eqb-true (answer e s₂ c) 0 h₂)))
        (λ h.
        let h₂ : eqb (answer e s₂ c) 0 ≡ false = rw one at h in
        rw (h, h₂) (a₁.has ∙ sym a₂.has))

    own-datagram : (unix : ℕ) (address : Bytes) (udp : ℕ) (bytes : Bytes)
        → entry_of e key (next e s₁ (datagram now unix address udp key bytes)) ≡ entry_of e key (next e s₂ (datagram now unix address udp key bytes))
    own-datagram unix address udp bytes =
        let r = e.read bytes unix in
        let f = on_datagram now address udp key r in
        by_both (datagram now unix address udp key bytes) (datagram-answer unix address udp bytes)
        (λ c₁ c₂.
        rw (
          own-bucket e s₁ a₁.ok.sized now key f (datagram-keyed e s₁ now unix address udp key bytes c₁).is_kept,
          own-bucket e s₂ a₂.ok.sized now key f (datagram-keyed e s₂ now unix address udp key bytes c₂).is_kept,
        )
        (datagram-entry now key (bucket_of e s₁ key) p a₁.has (no_wait e key p s₁ a₁) address udp r
        ∙ sym (datagram-entry now key (bucket_of e s₂ key) p a₂.has (no_wait e key p s₂ a₂) address udp r)))

    own_ping_sent : (address : Bytes) (udp tcp : ℕ) (hash : Bytes)
        → entry_of e key (next e s₁ (ping_sent now key address udp tcp hash)) ≡ entry_of e key (next e s₂ (ping_sent now key address udp tcp hash))
    own_ping_sent address udp tcp hash =
        let f = on_ping_sent now key address udp tcp hash in
        by_both (ping_sent now key address udp tcp hash) (ping_sent_answer address udp tcp hash)
        (λ c₁ c₂.
        rw (
          own-bucket e s₁ a₁.ok.sized now key f (ping-allowed e s₁ now key address udp tcp hash c₁).keyed.is_kept,
          own-bucket e s₂ a₂.ok.sized now key f (ping-allowed e s₂ now key address udp tcp hash c₂).keyed.is_kept,
        )
        (ping_sent_entry now key (bucket_of e s₁ key) p a₁.has (no_wait e key p s₁ a₁) address udp tcp hash
        ∙ sym (ping_sent_entry now key (bucket_of e s₂ key) p a₂.has (no_wait e key p s₂ a₂) address udp tcp hash)))

swept_at : (e : Env) (X : Bytes) (p : Entry) (s : Table) → At e X p s → (now : ℕ) → s.clock ≤ now
    → entry_of e X (next e s (sweep now)) ≡ select (stays_entry now) (p ∷ [])
swept_at e X p s a now h =
    swept-entry e s a.ok X (at_entry e X p s a) now (sweep-accepted e s now h) ∙ ap (select (stays_entry now)) a.has

-- the same call does the same to the entry in both
same_entry : (e : Env) (X : Bytes) (p : Entry) (s₁ s₂ : Table) → At e X p s₁ → At e X p s₂
    → (last : ℕ) → s₁.clock ≤ last → s₂.clock ≤ last → (c : Call) → Rises last c
    → entry_of e X (next e s₁ c) ≡ entry_of e X (next e s₂ c)
same_entry e X p s₁ s₂ a₁ a₂ last t₁ t₂ (datagram now unix address udp key bytes) h =
    by_test (same_bytes X key)
    (λ g.
    let is = same_eq X key g in
    rw is (own-datagram e key p s₁ s₂ (rw is at a₁) (rw is at a₂) now (omega arith) (omega arith) unix address udp bytes))
    (λ g.
    (other-datagram e s₁ a₁.ok.sized X key g now unix address udp bytes).entries
    ∙ a₁.has ∙ sym a₂.has
    ∙ sym (other-datagram e s₂ a₂.ok.sized X key g now unix address udp bytes).entries)
same_entry e X p s₁ s₂ a₁ a₂ last t₁ t₂ (ping_sent now key address udp tcp hash) h =
    by_test (same_bytes X key)
    (λ g.
    let is = same_eq X key g in
    rw is (own_ping_sent e key p s₁ s₂ (rw is at a₁) (rw is at a₂) now (omega arith) (omega arith) address udp tcp hash))
    (λ g.
    (other_ping_sent e s₁ a₁.ok.sized X key g now address udp tcp hash).entries
    ∙ a₁.has ∙ sym a₂.has
    ∙ sym (other_ping_sent e s₂ a₂.ok.sized X key g now address udp tcp hash).entries)
same_entry e X p s₁ s₂ a₁ a₂ last t₁ t₂ (sweep now) h =
    swept_at e X p s₁ a₁ now (omega arith) ∙ sym (swept_at e X p s₂ a₂ now (omega arith))
same_entry e X p s₁ s₂ a₁ a₂ last t₁ t₂ (closest target room) h =
    unmoved s₁ ∙ a₁.has ∙ sym a₂.has ∙ sym (unmoved s₂)
  where
    unmoved : (s : Table) → entry_of e X (next e s (closest target room)) ≡ entry_of e X s
    unmoved s = by_answer e (λ s'. entry_of e X s' ≡ entry_of e X s) s (closest target room) (λ _. refl) (λ _. refl)
same_entry e X p s₁ s₂ a₁ a₂ last t₁ t₂ (unclocked c) h = absurd h

effect_clock : (e : Env) (s : Table) (last : ℕ) → s.clock ≤ last → (c : Call) → (effect e s c).clock ≤ clock_reading last c
effect_clock e s last h (datagram now unix address udp key bytes) = omega arith
effect_clock e s last h (ping_sent now key address udp tcp hash) = omega arith
effect_clock e s last h (sweep now) = omega arith
effect_clock e s last h (closest target room) = omega arith
effect_clock e s last h (unclocked c) = omega arith

rises : (last : ℕ) (c : Call) → Rises last c → last ≤ clock_reading last c
rises last (datagram now unix address udp key bytes) h = h
rises last (ping_sent now key address udp tcp hash) h = h
rises last (sweep now) h = h
rises last (closest target room) h = omega arith
rises last (unclocked c) h = absurd h

next_clock : (e : Env) (s : Table) (last : ℕ) → s.clock ≤ last → (c : Call) → Rises last c → (next e s c).clock ≤ clock_reading last c
next_clock e s last h c g =
    by_answer e (λ s'. s'.clock ≤ clock_reading last c) s c (λ _. effect_clock e s last h c) (λ _. omega (arith, rises last c g))

-- ---- two lists of calls

module _ (e : Env) (X : Bytes) where
  -- from two tables with the same entry of X, it is next lost at the same call
  Alike : List Call → List Call → Type 0
  Alike cs ds =
      (p : Entry) (s₁ s₂ : Table) → At e X p s₁ → At e X p s₂
      → (last : ℕ) → s₁.clock ≤ last → s₂.clock ≤ last → NotFalling last cs
      → (n : ℕ) → entry_lost_at e X s₁ n cs ≡ entry_lost_at e X s₂ n ds

  single : (s : Table) → TableSound e s → (q : Entry) (m : List Entry) → entry_of e X s ≡ q ∷ m → At e X q s
  single s ok q m h =
      record {
        ok = ok;
        has = h ∙ ap (λ l. q ∷ l) (nil m (omega (arith, (ok.each (slot e X)).once X, ap length h)));
      }

  alike_same : (c : Call) (cs ds : List Call) → Alike cs ds → Alike (c ∷ cs) (c ∷ ds)
  unfolding Alike
  alike_same c cs ds ih p s₁ s₂ a₁ a₂ last t₁ t₂ rise n =
      go (entry_of e X (next e s₂ c)) (same_entry e X p s₁ s₂ a₁ a₂ last t₁ t₂ c rise.0) refl
    where
      go : (l : List Entry) → entry_of e X (next e s₁ c) ≡ l → entry_of e X (next e s₂ c) ≡ l
          → entry_lost_at e X s₁ n (c ∷ cs) ≡ entry_lost_at e X s₂ n (c ∷ ds)
      go [] h₁ h₂ = rw (h₁, h₂)
      go (q ∷ m) h₁ h₂ =
          rw (h₁, h₂)
          (ih q (next e s₁ c) (next e s₂ c)
          (single (next e s₁ c) (next-sound e s₁ a₁.ok c) q m h₁)
          (single (next e s₂ c) (next-sound e s₂ a₂.ok c) q m h₂)
          (clock_reading last c) (next_clock e s₁ last t₁ c rise.0) (next_clock e s₂ last t₂ c rise.0) rise.1 (count_sweep c n))

  alike-less : (now unix : ℕ) (address : Bytes) (udp : ℕ) (key bytes : Bytes) (cs ds : List Call) → (key ≡ X → ⊥)
      → Alike cs ds → Alike (datagram now unix address udp key bytes ∷ cs) ds
  unfolding Alike
  alike-less now unix address udp key bytes cs ds d ih p s₁ s₂ a₁ a₂ last t₁ t₂ rise n =
      let c = datagram now unix address udp key bytes in
      let other_key : same_bytes X key ≡ false = by_test (same_bytes X key) (λ g. absurd (d (sym (same_eq X key g)))) (λ g. g) in
      let still : entry_of e X (next e s₁ c) ≡ p ∷ [] =
      (other-datagram e s₁ a₁.ok.sized X key other_key now unix address udp bytes).entries ∙ a₁.has in
      rw still
      (ih p (next e s₁ c) s₂ (record { ok = next-sound e s₁ a₁.ok c; has = still }) a₂
      now (next_clock e s₁ last t₁ c rise.0) (omega (arith, rise.0)) rise.1 n)

  alike : {cs ds : List Call} → LeftOut X cs ds → Alike cs ds
  unfolding Alike
  alike nothing = λ p s₁ s₂ a₁ a₂ last t₁ t₂ rise n. refl
  alike (same c {cs = cs} {ds = ds} out) = alike_same c cs ds (alike out)
  alike (less now unix address udp key bytes {cs = cs} {ds = ds} d out) = alike-less now unix address udp key bytes cs ds d (alike out)

pub isolated : (e : Env) (r : Run e) → TableSound e r.table → (later : List Call) → Isolated e r later
unfolding Alike
isolated e r ok later X has rise fewer out = go (entry_of e X r.table) refl has
  where
    go : (l : List Entry) → entry_of e X r.table ≡ l → 0 < length l → entry_lost_at e X r.table 0 later ≡ entry_lost_at e X r.table 0 fewer
    go [] h g = absurd (omega arith)
    go (p ∷ m) h g =
        let at = single e X r.table ok p m h in
        alike e X out p r.table r.table at at r.table.clock (omega arith) (omega arith) rise 0
