-- How a node comes to have an entry: by its pong, where it waits and there is a seat for it, or proved, by a sweep with room for it.
use Prim.Native.Nat.{ℕ, ◌<◌, ◌≤◌}
use mathlib.Core.Path.{◌≡◌, refl, ap, sym, ◌∙◌}
use mathlib.Core.Logic.{◌⊎◌, inl, inr, ⊎_elim}
use mathlib.Core.Bool.{true, ◌&&◌}
use native.Mathlib.Omega.{arith}
use borrow.Author.Tests.{eq-eqb, eqb-true, ltb-true, ltb-false}
use lib.Dec.{eqb, ltb}
use lib.ListN.{length, length-append, length-map}
use Rattle.octets.specs.Octets.{Bytes, same_bytes}
use Rattle.octets.proofs.Laws.{same_eq, same_refl}
use Rattle.lists.specs.Lists.{empty, All}
use Rattle.lists.proofs.Laws.{by_test, never, and_left, and_right, length-select, All-select}
use Rattle.bucket_model.specs.Contents.{Contents}
use Rattle.bucket_model.specs.Rules.{takes_entry, is_of, of_key, held, ponged, heard, promoted, stays_replacement, on_pong, on_heard, on_ping_sent}
use Rattle.bucket_model.specs.Facts.{SeatFor}
use Rattle.bucket_model.proofs.Ranges.{takes_seat, seat_takes}
use Rattle.bucket_model.proofs.Keys.{promoted_proved, promoted_or_remaining}
use Rattle.bucket_model.proofs.View.{own-heard, own-pong-stays, own-pong-takes, own-joined, of_key_kept}
use Rattle.bucket_model.proofs.Promotion.{proved_entry, of_key-promoted}
use Rattle.call_history.specs.Model.{Env, Reading, Call, datagram, ping_sent, sweep, closest, unclocked, Table, slot, bucket_of, answer, Accepted, on_datagram, next, Run}
use Rattle.call_history.specs.Words.{is_pong, entry_of, replacement_of, HasEntry, IsReplacement, AcceptedSweep, pong_from, ProvedReplacement, kept_entries, kept_replacements}
use Rattle.call_history.specs.Demand3.{TakesEntry, ComesToEntry}
use Rattle.call_history.proofs.Step.{by_datagram, by_answer}
use Rattle.call_history.proofs.Sound.{TableSound}
use Rattle.call_history.proofs.View as View
use Rattle.call_history.proofs.Log.{Known, KnownIn}
use Rattle.call_history.proofs.Entry.{count-mapped, ping_sent_keeps}
use Rattle.call_history.proofs.Replacement.{swept-entries, log_proved}

-- ---- the signer's bucket

module _ (now : ℕ) (key : Bytes) (b : Contents) (none : length (of_key key b.entries) ≡ 0) where
  pong-count : takes_entry key b ≡ true → length (of_key key (on_pong now key b).entries) ≡ length (of_key key b.replacements)
  pong-count free = rw (own-pong-takes now key b free).entries (simp (length-append, length-map) (omega arith))

  -- a datagram gives its signer an entry only where it is a pong, the signer waits, and there is a seat for it
  datagram-seats : (address : Bytes) (udp : ℕ) (r : Reading) → 0 < length (of_key key (on_datagram now address udp key r b).entries)
      → (is_pong r ≡ true) × (0 < length (of_key key b.replacements)) × (takes_entry key b ≡ true)
  datagram-seats address udp r =
      by_datagram (λ c. 0 < length (of_key key c.entries) → (is_pong r ≡ true) × (0 < length (of_key key b.replacements)) × (takes_entry key b ≡ true))
      now address udp key r b
      (λ _ has. absurd (omega arith))
      (λ _ has. absurd (omega (arith, count-mapped now key b (heard now) (on_heard now key b) (own-heard now key b))))
      (λ is has. by_test (takes_entry key b)
      (λ g. (is, omega (arith, pong-count g), g))
      (λ g. absurd (omega (arith, count-mapped now key b (ponged now) (on_pong now key b) (own-pong-stays now key b g)))))

  -- and there it does
  pong-seats : (address : Bytes) (udp : ℕ) (r : Reading) → is_pong r ≡ true → 0 < length (of_key key b.replacements) → takes_entry key b ≡ true
      → 0 < length (of_key key (on_datagram now address udp key r b).entries)
  pong-seats address udp r is waits free =
      by_datagram (λ c. 0 < length (of_key key c.entries)) now address udp key r b
      (λ no. never (sym is ∙ no))
      (λ no. never (sym is ∙ no))
      (λ _. omega (arith, pong-count free))

  ping-seats-none : (address : Bytes) (udp tcp : ℕ) (hash : Bytes) → length (of_key key (on_ping_sent now key address udp tcp hash b).entries) ≡ 0
  ping-seats-none address udp tcp hash =
      by_test (empty (held key b))
      (λ g. rw (own-joined now key b address udp tcp hash g).entries)
      (λ g. ping_sent_keeps now key b address udp tcp hash g ∙ none)

-- ---- a call

module _ (e : Env) (s : Table) (ok : TableSound e s) where
  -- an accepted pong from a waiting node, with a seat for it
  abbrev PongSeats : Bytes → Call → Type 0
  PongSeats X c = IsReplacement e X s × (pong_from e X s c ≡ true) × SeatFor X (bucket_of e s X).entries (bucket_of e s X).replacements

  own-datagram : (now unix : ℕ) (address : Bytes) (udp : ℕ) (key bytes : Bytes) → length (entry_of e key s) ≡ 0
      → HasEntry e key (next e s (datagram now unix address udp key bytes)) → PongSeats key (datagram now unix address udp key bytes)
  own-datagram now unix address udp key bytes none =
      let c = datagram now unix address udp key bytes in
      View.own-datagram e s ok.sized (λ b. 0 < length (of_key key b.entries) → PongSeats key c) now unix address udp key bytes
      (λ a has.
      let is = datagram-seats now key (bucket_of e s key) none address udp (e.read bytes unix) has in
      let b = bucket_of e s key in
      let few : length (of_key key b.replacements) ≤ 1 = omega (arith, (ok.each (slot e key)).once key) in
      (is.1, rw (same_refl key, is.0, eq-eqb (answer e s c) 0 a), takes_seat key b.entries b.replacements few is.2))
      (λ _ has. absurd (omega arith))

  module _ (X : Bytes) (none : length (entry_of e X s) ≡ 0) where
    comes : (c : Call) → HasEntry e X (next e s c) → PongSeats X c ⊎ ((t : ℕ) × AcceptedSweep e s c t)
    comes (datagram now unix address udp key bytes) =
        λ has. inl (by_test (same_bytes X key)
        (λ g.
        let is = same_eq X key g in
        rw is (own-datagram now unix address udp key bytes (rw is at none) (rw is at has)))
        (λ g. absurd (omega (arith, ap length (View.other-datagram e s ok.sized X key g now unix address udp bytes).entries))))
    comes (ping_sent now key address udp tcp hash) =
        λ has. absurd (by_test (same_bytes X key)
        (λ g.
        let is = same_eq X key g in
        let own : length (entry_of e key s) ≡ 0 = rw is at none in
        let has' : HasEntry e key (next e s (ping_sent now key address udp tcp hash)) = rw is at has in
        let still : length (entry_of e key (next e s (ping_sent now key address udp tcp hash))) ≡ 0 =
        View.own_ping_sent e s ok.sized (λ b. length (of_key key b.entries) ≡ 0) now key address udp tcp hash
        (λ _. ping-seats-none now key (bucket_of e s key) own address udp tcp hash) (λ _. own) in
        omega arith)
        (λ g. omega (arith, ap length (View.other_ping_sent e s ok.sized X key g now address udp tcp hash).entries)))
    comes (sweep now) =
        by_answer e (λ s'. HasEntry e X s' → PongSeats X (sweep now) ⊎ ((t : ℕ) × AcceptedSweep e s (sweep now) t)) s (sweep now)
        (λ a has. inr (now, (refl, a)))
        (λ _ has. absurd (omega arith))
    comes (closest target room) =
        by_answer e (λ s'. HasEntry e X s' → PongSeats X (closest target room) ⊎ ((t : ℕ) × AcceptedSweep e s (closest target room) t)) s (closest target room)
        (λ _ has. absurd (omega arith))
        (λ _ has. absurd (omega arith))
    comes (unclocked c) = λ has. absurd (omega arith)

    pong-comes : (c : Call) → PongSeats X c → HasEntry e X (next e s c)
    pong-comes (datagram now unix address udp key bytes) p =
        let c = datagram now unix address udp key bytes in
        let r = e.read bytes unix in
        let is = same_eq X key (and_left (same_bytes X key) (is_pong r && eqb (answer e s c) 0) p.1) in
        let rest = and_right (same_bytes X key) (is_pong r && eqb (answer e s c) 0) p.1 in
        let a = eqb-true (answer e s c) 0 (and_right (is_pong r) (eqb (answer e s c) 0) rest) in
        let own : PongSeats key c = rw is at p in
        rw is
        (View.own-datagram e s ok.sized (λ b. 0 < length (of_key key b.entries)) now unix address udp key bytes
        (λ _. pong-seats now key (bucket_of e s key) (rw is at none) address udp r (and_left (is_pong r) (eqb (answer e s c) 0) rest) own.0
        (seat_takes key (bucket_of e s key).entries (bucket_of e s key).replacements own.0 own.2))
        (λ rejected. absurd (rejected a)))
    pong-comes (ping_sent now key address udp tcp hash) p = never (sym p.1)
    pong-comes (sweep now) p = never (sym p.1)
    pong-comes (closest target room) p = never (sym p.1)
    pong-comes (unclocked c) p = never (sym p.1)

module _ (e : Env) (r : Run e) (ok : TableSound e r.table) (known : (X : Bytes) → KnownIn e X r.log (bucket_of e r.table X)) where
  -- what a sweep seats was in line, proved
  seated-proved : (X : Bytes) → length (entry_of e X r.table) ≡ 0 → (t : ℕ) → Accepted e r.table (sweep t)
      → HasEntry e X (next e r.table (sweep t)) → ProvedReplacement e X r
  seated-proved X none t a has =
      let b = bucket_of e r.table X in
      let kept-entries = kept_entries e t r.table X in
      let line = kept_replacements e t r.table X in
      let count = swept-entries e r.table ok X none t a in
      let kept : All (Known e X r.log) (of_key X line) =
      rw (of_key_kept X t b) (All-select (Known e X r.log) (stays_replacement t) (replacement_of e X r.table) (known X).1) in (
        omega (
          arith,
          promoted_or_remaining X kept-entries line,
          ap length (of_key_kept X t b),
          length-select (stays_replacement t) (replacement_of e X r.table),
        ),
        log_proved e X r.log (of_key X (promoted kept-entries line)) (omega arith) (of_key-promoted (Known e X r.log) X kept-entries line kept)
            (All-select (λ p. proved_entry p ≡ true) (is_of X) (promoted kept-entries line) (promoted_proved kept-entries line)),
      )

  pub comes-to-entry : (c : Call) → TakesEntry e r c → ComesToEntry e r c
  comes-to-entry c takes X out =
      let none : length (entry_of e X r.table) ≡ 0 = omega arith in (
        λ has. ⊎_elim inl
            (λ swept.
            let t = swept.0 in
            let is : c ≡ sweep t = swept.1.0 in
            let w = seated-proved X none t (rw is at swept.1.1) (rw is at has) in
            inr (w, (takes X w).0 has))
            (comes e r.table ok X none c has),
        ⊎_elim (λ at. pong-comes e r.table ok X none c at) (λ at. (takes X at.0).1 at.1),
      )
