-- What a line does to a node: its entries and waiting places after it, and what it makes of its ping state. Assumes nothing.
use Prim.Native.Nat.{ℕ, ◌+◌, ◌≤◌}
use mathlib.Core.Path.{◌≡◌, refl, ap, ◌∙◌}
use mathlib.Core.Logic.{◌⊎◌, inl, inr}
use mathlib.Core.Bool.{Bool, true, false, ◌&&◌, and-false}
use mathlib.Core.List.{List, [], ◌∷◌, ◌++◌, map, map-id}
use native.Mathlib.Omega.{arith}
use borrow.Author.Tests.{ne_eqb}
use lib.Dec.{eqb}
use lib.ListN.{length}
use Rattle.octets.specs.Octets.{Bytes, same_bytes}
use Rattle.octets.proofs.Laws.{same_eq, same_refl}
use Rattle.keccak.specs.Sponge.{keccak256}
use Rattle.keccak.proofs.Laws.{keccak256-length, keccak256_bytes}
use Rattle.lists.specs.Lists.{select, empty, All}
use Rattle.lists.proofs.Laws.{by_test, empty-append, All-select}
use Rattle.entry.specs.declared.Entry.{Entry}
use Rattle.entry.specs.declared.PingState.{PingState}
use Rattle.entry.specs.declared.PingState.TheVariants.{Quiet, Out}
use Rattle.bucket_model.specs.Contents.{Contents}
use Rattle.bucket_model.specs.Rules.{millis, of_key, held, takes_entry, pinged, ponged, heard, new_entry, promoted, remaining, stays_entry, stays_replacement, on_ping_sent, on_pong, on_heard, on_sweep}
use Rattle.bucket_model.proofs.Keys.{promoted_or_remaining}
use Rattle.bucket_model.proofs.View.{Holds, kept_entries, kept_replacements, own-heard, own-pong-stays, own-pong-takes, own-pinged, own-joined, own-sweep, of_key_kept}
use Rattle.bucket_model.proofs.Promotion.{of_key-promoted, of_key-remaining}
use Rattle.call_history.specs.Model.{Env, Call, datagram, ping_sent, sweep, closest, unclocked, Table, slot, bucket_of, answer, next}
use Rattle.call_history.specs.Words.{is_pong, entry_of, replacement_of}
use Rattle.call_history.proofs.Step.{by_datagram, by_answer, swept_bucket, fresh-bucket, keccak_lawful}
use Rattle.call_history.proofs.Sound.{TableSound, fresh_sound, next-sound}
use Rattle.call_history.proofs.View as View
use Rattle.call_model.specs.Reading.{reading}
use Rattle.log_own.specs.OwnLine.{own_number}
use Rattle.log_history.specs.Past.{Asked, own, call, unreadable, Stage, before, running, rules_for, number_at, opened, stage_after, Moment}
use Rattle.log_history.specs.Why.{seat_in, place_in, names, pings, SweepAt, PingAt, pong_in}

-- ---- a table that the rules reach is sound

abbrev pub SoundStage : Stage → Type 0
SoundStage (before owned) = Unit {0}
SoundStage (running e s) = TableSound e s

opened-sound : (buckets : ℕ) (key : Bytes) → SoundStage (opened buckets key)
opened-sound buckets key =
    by_test (eqb (own_number buckets key) 0)
    (λ h. rw h (fresh_sound (rules_for buckets key) (keccak_lawful reading (keccak256 key) buckets (keccak256-length key) (keccak256_bytes key))))
    (λ h. rw h tt)

pub after-sound : (st : Stage) (a : Asked) → SoundStage st → SoundStage (stage_after st a)
unfolding stage_after
after-sound (before owned) (own buckets key) ok = by_test owned (λ h. rw h tt) (λ h. rw h (opened-sound buckets key))
after-sound (before owned) (call c) ok = tt
after-sound (before owned) unreadable ok = tt
after-sound (running e s) (own buckets key) ok = ok
after-sound (running e s) (call c) ok = next-sound e s ok c
after-sound (running e s) unreadable ok = ok

-- a node stands in one place
pub stage_once : (X : Bytes) (st : Stage) → SoundStage st → length (seat_in X st) + length (place_in X st) ≤ 1
stage_once X (before owned) ok = omega arith
stage_once X (running e s) ok = (ok.each (slot e X)).once X

-- ---- what a line does to X, by cases

abbrev pub at : Stage → Asked → Moment
at st a = record { given = st; asks = a }

-- no ping recorded for X, and no accepted pong from it
abbrev pub Silent : Bytes → Moment → Type 0
Silent X v = (pings X v ≡ false) × (pong_in X v.given v.asks ≡ false)

-- what the line makes of a ping state: the same, quiet, or out since the ping that it records
abbrev pub Makes : Bytes → Moment → PingState → PingState → Type 0
Makes X v was is = ((is ≡ was) × Silent X v) ⊎ ((is ≡ Quiet) ⊎ ((t : ℕ) × PingAt X t v × (is ≡ Out (millis t))))

-- P of what the line leaves X: of its entries, and of its waiting places
pub record Cases (X : Bytes) (v : Moment) (P : List Entry → List Entry → Type 0) : Type 1 where
  -- where it stands
  pub stays : (f : Entry → Entry) → ((p : Entry) → Makes X v p.ping (f p).ping) → P (map f (seat_in X v.given)) (map f (place_in X v.given))
  -- its pong seats it
  pub takes : (f : Entry → Entry) → ((p : Entry) → Makes X v p.ping (f p).ping)
      → P (map f (seat_in X v.given) ++ map f (place_in X v.given)) []
  -- its ping puts it in line
  pub joins : (p : Entry) (t : ℕ) → length (seat_in X v.given) + length (place_in X v.given) ≡ 0 → names X v ≡ true → PingAt X t v
      → p.ping ≡ Out (millis t) → P [] (p ∷ [])
  -- a sweep, of whose kept waiting places it seats `up` and leaves `line`
  pub swept : (t : ℕ) (up line : List Entry) → SweepAt t v → Silent X v
      → length up + length line ≡ length (select (stays_replacement t) (place_in X v.given))
      → ((Q : Entry → Type 0) → All Q (place_in X v.given) → All Q up × All Q line)
      → P (select (stays_entry t) (seat_in X v.given) ++ up) line

-- nothing changes
same : (X : Bytes) (v : Moment) (P : List Entry → List Entry → Type 0) → Cases X v P → Silent X v → P (seat_in X v.given) (place_in X v.given)
same X v P cases silent =
    rw (map-id (seat_in X v.given), map-id (place_in X v.given)) at (cases.stays (λ p. p) (λ p. inl (refl, silent)))

holding : (P : List Entry → List Entry → Type 0) (X : Bytes) (b : Contents) (es rs : List Entry) → Holds X b es rs → P es rs
    → P (of_key X b.entries) (of_key X b.replacements)
holding P X b es rs h p = rw (h.entries, h.replacements) p

module _ (e : Env) (s : Table) (ok : TableSound e s) (P : List Entry → List Entry → Type 0) where
  abbrev when : Call → Moment
  when c = at (running e s) (call c)

  -- of what the call leaves
  abbrev Left : Bytes → Call → Type 0
  Left X c = P (entry_of e X (next e s c)) (replacement_of e X (next e s c))

  own-datagram : (now unix : ℕ) (address : Bytes) (udp : ℕ) (key bytes : Bytes) → Cases key (when (datagram now unix address udp key bytes)) P
      → Left key (datagram now unix address udp key bytes)
  own-datagram now unix address udp key bytes cases =
      let c = datagram now unix address udp key bytes in
      let b = bucket_of e s key in
      let r = e.read bytes unix in
      View.own-datagram e s ok.sized (λ b. P (of_key key b.entries) (of_key key b.replacements)) now unix address udp key bytes
      (λ a.
      let quiet : is_pong r ≡ false → Silent key (when c) = λ no. (refl, rw no (simp and-false)) in
      by_datagram (λ b. P (of_key key b.entries) (of_key key b.replacements)) now address udp key r b
      (λ no. same key (when c) P cases (quiet no))
      (λ no. holding P key (on_heard now key b) _ _ (own-heard now key b) (cases.stays (heard now) (λ p. inl (refl, quiet no))))
      (λ is. by_test (takes_entry key b)
      (λ g. holding P key (on_pong now key b) _ _ (own-pong-takes now key b g) (cases.takes (ponged now) (λ p. inr (inl refl))))
      (λ g. holding P key (on_pong now key b) _ _ (own-pong-stays now key b g) (cases.stays (ponged now) (λ p. inr (inl refl))))))
      (λ rejected. same key (when c) P cases (refl, rw (ne_eqb (answer e s c) 0 rejected) (simp and-false)))

  own_ping_sent : (now : ℕ) (key address : Bytes) (udp tcp : ℕ) (hash : Bytes) → Cases key (when (ping_sent now key address udp tcp hash)) P
      → Left key (ping_sent now key address udp tcp hash)
  unfolding number_at
  own_ping_sent now key address udp tcp hash cases =
      let c = ping_sent now key address udp tcp hash in
      let b = bucket_of e s key in
      View.own_ping_sent e s ok.sized (λ b. P (of_key key b.entries) (of_key key b.replacements)) now key address udp tcp hash
      (λ a.
      let is : PingAt key now (when c) = record { address = address; udp = udp; tcp = tcp; hash = hash; asks = refl; done = a } in
      by_test (empty (held key b))
      (λ g.
      let none = empty-append (of_key key b.entries) (of_key key b.replacements) g in
      holding P key (on_ping_sent now key address udp tcp hash b) _ _ (own-joined now key b address udp tcp hash g)
      (cases.joins (new_entry now key address udp tcp hash) now (omega (arith, none.0, none.1)) (same_refl key) is refl))
      (λ g. holding P key (on_ping_sent now key address udp tcp hash b) _ _ (own-pinged now key b address udp tcp hash g)
      (cases.stays (pinged now hash) (λ p. inr (inr (now, is, refl))))))
      (λ rejected. same key (when c) P cases (rw (ne_eqb (answer e s c) 0 rejected) (simp and-false), refl))

  swept-by : (X : Bytes) (now : ℕ) → Cases X (when (sweep now)) P → Left X (sweep now)
  unfolding number_at
  swept-by X now cases =
      let b = bucket_of e s X in
      let taken = kept_entries now b in
      let line = kept_replacements now b in
      by_answer e (λ s'. P (entry_of e X s') (replacement_of e X s')) s (sweep now)
      (λ a. rw (swept_bucket e s now (slot e X))
      (holding P X (on_sweep now b) _ _ (own-sweep X now b)
      (cases.swept now (of_key X (promoted taken line)) (of_key X (remaining taken line)) (record { asks = refl; done = a }) (refl, refl)
      (promoted_or_remaining X taken line ∙ ap length (of_key_kept X now b))
      (λ Q all.
      let own : All Q (of_key X line) = rw (of_key_kept X now b) (All-select Q (stays_replacement now) (of_key X b.replacements) all) in
      (of_key-promoted Q X taken line own, of_key-remaining Q X taken line own)))))
      (λ _. same X (when (sweep now)) P cases (refl, refl))

  by_call : (X : Bytes) (c : Call) → Cases X (when c) P → Left X c
  by_call X (datagram now unix address udp key bytes) cases =
      let c = datagram now unix address udp key bytes in
      by_test (same_bytes X key)
      (λ h. rw (same_eq X key h) (own-datagram now unix address udp key bytes (rw (same_eq X key h) at cases)))
      (λ h. holding P X (bucket_of e (next e s c) X) _ _ (View.other-datagram e s ok.sized X key h now unix address udp bytes)
      (same X (when c) P cases (refl, ap (λ (b : Bool). b && (is_pong (e.read bytes unix) && eqb (answer e s c) 0)) h)))
  by_call X (ping_sent now key address udp tcp hash) cases =
      let c = ping_sent now key address udp tcp hash in
      by_test (same_bytes X key)
      (λ h. rw (same_eq X key h) (own_ping_sent now key address udp tcp hash (rw (same_eq X key h) at cases)))
      (λ h. holding P X (bucket_of e (next e s c) X) _ _ (View.other_ping_sent e s ok.sized X key h now address udp tcp hash)
      (same X (when c) P cases (ap (λ (b : Bool). b && eqb (number_at (running e s) (call c)) 0) h, refl)))
  by_call X (sweep now) cases = swept-by X now cases
  by_call X (closest target room) cases =
      by_answer e (λ s'. P (entry_of e X s') (replacement_of e X s')) s (closest target room)
      (λ _. same X (when (closest target room)) P cases (refl, refl))
      (λ _. same X (when (closest target room)) P cases (refl, refl))
  by_call X (unclocked c) cases = same X (when (unclocked c)) P cases (refl, refl)

pub by_line : (X : Bytes) (P : List Entry → List Entry → Type 0) (st : Stage) (a : Asked) → SoundStage st → Cases X (at st a) P
    → P (seat_in X (stage_after st a)) (place_in X (stage_after st a))
unfolding stage_after number_at
by_line X P (before owned) (own buckets key) ok cases =
    let nobody : P [] [] = same X (at (before owned) (own buckets key)) P cases (refl, refl) in
    by_test owned
    (λ h. rw h nobody)
    (λ h. rw h (by_test (eqb (own_number buckets key) 0)
    (λ g. rw g (rw (fresh-bucket (rules_for buckets key) (slot (rules_for buckets key) X)) nobody))
    (λ g. rw g nobody)))
by_line X P (before owned) (call c) ok cases = same X (at (before owned) (call c)) P cases (simp and-false, refl)
by_line X P (before owned) unreadable ok cases = same X (at (before owned) unreadable) P cases (refl, refl)
by_line X P (running e s) (own buckets key) ok cases = same X (at (running e s) (own buckets key)) P cases (refl, refl)
by_line X P (running e s) (call c) ok cases = by_call e s ok P X c cases
by_line X P (running e s) unreadable ok cases = same X (at (running e s) unreadable) P cases (refl, refl)
