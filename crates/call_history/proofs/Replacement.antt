-- A proved node in line leaves it only at a sweep, and takes an entry exactly where there is one for it and for every proved node
-- ahead of it.
use Prim.Native.Nat.{ℕ, ◌<◌, ◌≤◌}
use mathlib.Core.Path.{◌≡◌, refl, ap, sym, ◌∙◌}
use mathlib.Core.Logic.{◌⊎◌, inl, inr, ⊎_elim}
use mathlib.Core.Bool.{Bool, true, false}
use mathlib.Core.List.{List, [], ◌∷◌, ◌++◌, append-nil, append_assoc}
use native.Mathlib.Omega.{arith}
use borrow.Author.Tests.{ltb-true, ltb-false}
use lib.Dec.{ltb}
use lib.ListN.{length, length-append, length-map}
use Rattle.octets.specs.Octets.{Bytes, same_bytes}
use Rattle.octets.proofs.Laws.{same_eq}
use Rattle.lists.specs.Lists.{select, empty, any, before, All}
use Rattle.lists.proofs.Laws.{by_test, never, empty-append, select-agree, length-select, All-select, All-before, All-map, All-imp, Rising-select}
use Rattle.entry.specs.declared.Entry.{Entry}
use Rattle.bucket_model.specs.Contents.{Contents}
use Rattle.bucket_model.specs.Rules.{may_take, takes_entry, is_promoted, is_of, of_key, held, is_proved, pinged, ponged, heard, promoted, remaining, stays_entry, stays_replacement, on_ping_sent, on_pong, on_heard}
use Rattle.bucket_model.specs.Facts.{SeatFor}
use Rattle.bucket_model.proofs.Keys.{promoted_or_remaining}
use Rattle.bucket_model.proofs.View.{Mapped, own-heard, own-pong-stays, own-pinged, own-sweep, of_key_kept}
use Rattle.bucket_model.proofs.Promotion.{proved_entry, taken_before, promoted-room, room-promoted, of_key-remaining, lower-before}
use Rattle.call_history.specs.Model.{Env, Reading, Call, datagram, ping_sent, sweep, closest, unclocked, Table, slot, bucket_of, Accepted, on_datagram, next, Event, Run}
use Rattle.call_history.specs.Words.{entry_of, replacement_of, HasEntry, AcceptedSweep, began, proved, ProvedReplacement, kept_entries, kept_replacements, taken_after, taken_ahead}
use Rattle.call_history.specs.Demand3.{LeavesReplacements, HasRoomFor, TakesEntry, Drops, ProvedByPong, InOrder}
use Rattle.call_history.proofs.Step.{by_datagram, by_answer, swept_bucket}
use Rattle.call_history.proofs.Sound.{TableSound}
use Rattle.call_history.proofs.View as View
use Rattle.call_history.proofs.Log.{Known, KnownIn}
use Rattle.call_history.proofs.Entry.{count-mapped}

-- nodes that are proved have their turn as the sweep gives it to them
taken_by_proved : (t l : List Entry) → taken_after t (select proved_entry l) ≡ t ++ promoted t l
taken_by_proved t [] = simp append-nil
taken_by_proved t (p ∷ l) =
    by_test (proved_entry p)
    (λ g. by_test (may_take t p.endpoint)
    (λ f. simp (g, f, taken_by_proved (t ++ (p ∷ [])) l, append_assoc))
    (λ f. simp (g, f, taken_by_proved t l)))
    (λ g. simp (g, taken_by_proved t l))

abbrev IsProved : Entry → Type 0
IsProved p = proved_entry p ≡ true

-- ---- a call other than a sweep

-- a bucket holds the key in line, proved, and has no entry of it
pub record Waits (key : Bytes) (b : Contents) : Type 0 where
  pub in_line : 0 < length (of_key key b.replacements)
  pub is-proved : All (λ p. proved_entry p ≡ true) (of_key key b.replacements)
  pub no-entry : length (of_key key b.entries) ≡ 0

module _ (now : ℕ) (key : Bytes) (b : Contents) (w : Waits key b) where
  mapped-waits : (f : Entry → Entry) → ((p : Entry) → IsProved p → IsProved (f p)) → (c : Contents) → Mapped now key b f c → Waits key c
  mapped-waits f g c h =
      record {
        in_line = rw h.replacements (simp length-map w.in_line);
        is-proved = rw h.replacements (All-map IsProved IsProved f g (of_key key b.replacements) w.is-proved);
        no-entry = count-mapped now key b f c h ∙ w.no-entry;
      }

  ping_sent_waits : (address : Bytes) (udp tcp : ℕ) (hash : Bytes) → Waits key (on_ping_sent now key address udp tcp hash b)
  ping_sent_waits address udp tcp hash =
      let old : empty (held key b) ≡ false =
      by_test (empty (held key b))
      (λ g. absurd (omega (arith, w.in_line, (empty-append (of_key key b.entries) (of_key key b.replacements) g).1)))
      (λ g. g) in
      mapped-waits (pinged now hash) (λ p h. h) (on_ping_sent now key address udp tcp hash b) (own-pinged now key b address udp tcp hash old)

  -- it may not take an entry
  datagram-waits : takes_entry key b ≡ false → (address : Bytes) (udp : ℕ) (r : Reading) → Waits key (on_datagram now address udp key r b)
  datagram-waits stays address udp r =
      by_datagram (Waits key) now address udp key r b
      (λ _. w)
      (λ _. mapped-waits (heard now) (λ p h. h) (on_heard now key b) (own-heard now key b))
      (λ _. mapped-waits (ponged now) (λ p h. refl) (on_pong now key b) (own-pong-stays now key b stays))

module _ (e : Env) (s : Table) (ok : TableSound e s) where
  -- proved nodes wait only where they may not take an entry
  may-not-take : (X : Bytes) → Waits X (bucket_of e s X) → takes_entry X (bucket_of e s X) ≡ false
  may-not-take X w =
      let b = bucket_of e s X in
      none (replacement_of e X s) w.is-proved (All-select (λ p. is_promoted b.entries p ≡ false) (is_of X) b.replacements (ok.each (slot e X)).settled)
    where
      none : (l : List Entry) → All IsProved l → All (λ p. is_promoted (bucket_of e s X).entries p ≡ false) l
          → any (λ p. may_take (bucket_of e s X).entries p.endpoint) l ≡ false
      none [] a c = refl
      none (p ∷ l) a c =
          let no : may_take (bucket_of e s X).entries p.endpoint ≡ false = rw a.0 at c.0 in
          rw no (none l a.1 c.1)

  stays-in-line : (X : Bytes) → Waits X (bucket_of e s X) → (c : Call) → Waits X (bucket_of e (next e s c) X) ⊎ ((t : ℕ) × AcceptedSweep e s c t)
  stays-in-line X w (datagram now unix address udp key bytes) =
      inl (by_test (same_bytes X key)
      (λ h.
      let own : Waits key (bucket_of e s key) = rw (same_eq X key h) at w in
      rw (same_eq X key h)
      (View.own-datagram e s ok.sized (Waits key) now unix address udp key bytes
      (λ _. datagram-waits now key (bucket_of e s key) own (may-not-take key own) address udp (e.read bytes unix)) (λ _. own)))
      (λ h.
      let same = View.other-datagram e s ok.sized X key h now unix address udp bytes in
      record {
        in_line = rw same.replacements w.in_line;
        is-proved = rw same.replacements w.is-proved;
        no-entry = rw same.entries w.no-entry;
      }))
  stays-in-line X w (ping_sent now key address udp tcp hash) =
      inl (by_test (same_bytes X key)
      (λ h.
      let own : Waits key (bucket_of e s key) = rw (same_eq X key h) at w in
      rw (same_eq X key h)
      (View.own_ping_sent e s ok.sized (Waits key) now key address udp tcp hash
      (λ _. ping_sent_waits now key (bucket_of e s key) own address udp tcp hash) (λ _. own)))
      (λ h.
      let same = View.other_ping_sent e s ok.sized X key h now address udp tcp hash in
      record {
        in_line = rw same.replacements w.in_line;
        is-proved = rw same.replacements w.is-proved;
        no-entry = rw same.entries w.no-entry;
      }))
  stays-in-line X w (sweep now) =
      by_answer e (λ s'. Waits X (bucket_of e s' X) ⊎ ((t : ℕ) × AcceptedSweep e s (sweep now) t)) s (sweep now)
      (λ a. inr (now, (refl, a)))
      (λ _. inl w)
  stays-in-line X w (closest target room) =
      inl (by_answer e (λ s'. Waits X (bucket_of e s' X)) s (closest target room) (λ _. w) (λ _. w))
  stays-in-line X w (unclocked c) = inl w

  -- ---- a sweep

  -- a node without an entry has one exactly if it is promoted
  pub swept-entries : (X : Bytes) → length (entry_of e X s) ≡ 0 → (t : ℕ) → Accepted e s (sweep t)
      → length (entry_of e X (next e s (sweep t))) ≡ length (of_key X (promoted (kept_entries e t s X) (kept_replacements e t s X)))
  swept-entries X none t a =
      let seated = of_key X (promoted (kept_entries e t s X) (kept_replacements e t s X)) in
      by_answer e (λ s'. length (entry_of e X s') ≡ length seated) s (sweep t)
      (λ _. rw (swept_bucket e s t (slot e X), (own-sweep X t (bucket_of e s X)).entries)
      (simp length-append (omega (arith, none, length-select (stays_entry t) (entry_of e X s)))))
      (λ rejected. absurd (rejected a))

  module _ (X : Bytes) (w : Waits X (bucket_of e s X)) (t : ℕ) where
    abbrev taken : List Entry
    taken = kept_entries e t s X

    abbrev line : List Entry
    line = kept_replacements e t s X

    -- what a sweep at t keeps of the node is proved, and stands in line once
    line-proved : All IsProved (of_key X line)
    line-proved = rw (of_key_kept X t (bucket_of e s X)) (All-select IsProved (stays_replacement t) (replacement_of e X s) w.is-proved)

    line-once : length (of_key X line) ≤ 1
    line-once =
        rw (of_key_kept X t (bucket_of e s X))
        (omega (arith, (ok.each (slot e X)).once X, length-select (stays_replacement t) (replacement_of e X s)))

    module _ (a : Accepted e s (sweep t)) where
      swept-replacements : replacement_of e X (next e s (sweep t)) ≡ of_key X (remaining taken line)
      swept-replacements =
          by_answer e (λ s'. replacement_of e X s' ≡ of_key X (remaining taken line)) s (sweep t)
          (λ _. rw (swept_bucket e s t (slot e X)) (own-sweep X t (bucket_of e s X)).replacements)
          (λ rejected. absurd (rejected a))

      -- promoted, still in line, or not kept
      after-sweep : HasEntry e X (next e s (sweep t)) ⊎ (Waits X (bucket_of e (next e s (sweep t)) X) ⊎ (length (of_key X line) ≡ 0))
      after-sweep =
          let split = promoted_or_remaining X taken line in
          let count = swept-entries X w.no-entry t a in
          by_test (ltb 0 (length (of_key X (promoted taken line))))
          (λ g. inl (omega (arith, ltb-true 0 (length (of_key X (promoted taken line))) g)))
          (λ g.
          let none = ltb-false 0 (length (of_key X (promoted taken line))) g in
          inr (by_test (ltb 0 (length (of_key X line)))
          (λ f.
          let some = ltb-true 0 (length (of_key X line)) f in
          inl (record {
            in_line = rw swept-replacements (omega arith);
            is-proved = rw swept-replacements (of_key-remaining IsProved X taken line line-proved);
            no-entry = omega arith;
          }))
          (λ f. inr (omega (arith, ltb-false 0 (length (of_key X line)) f)))))

-- ---- the sentences

-- a proved entry of a node is one that the log proves
pub log_proved : (e : Env) (X : Bytes) (log : List (Event e)) (l : List Entry) → 0 < length l → All (Known e X log) l → All IsProved l
    → proved e log X ≡ true
log_proved e X log [] h k a = absurd (omega arith)
log_proved e X log (p ∷ l) h k a = sym k.0.proved-is ∙ a.0

module _ (e : Env) (r : Run e) (ok : TableSound e r.table) where
  waits : ((X : Bytes) → KnownIn e X r.log (bucket_of e r.table X)) → (X : Bytes) → ProvedReplacement e X r → Waits X (bucket_of e r.table X)
  waits known X w =
      record {
        in_line = w.0;
        is-proved = All-imp (Known e X r.log) IsProved (λ p kn. kn.proved-is ∙ w.1) (replacement_of e X r.table) (known X).1;
        no-entry = omega (arith, w.0, (ok.each (slot e X)).once X);
      }

  pub waits-proved : ((X : Bytes) → KnownIn e X r.log (bucket_of e r.table X)) → (X : Bytes) → Waits X (bucket_of e r.table X) → ProvedReplacement e X r
  waits-proved known X w =
      (w.in_line, log_proved e X r.log (replacement_of e X r.table) w.in_line (known X).1 w.is-proved)

  module _ (known : (X : Bytes) → KnownIn e X r.log (bucket_of e r.table X)) (c : Call) where
    pub leaves-replacements : LeavesReplacements e r c
    leaves-replacements X w gone =
        ⊎_elim (λ still. absurd (gone still.in_line)) (λ swept. swept) (stays-in-line e r.table ok X (waits known X w) c)

    module _ (proofs : ProvedByPong e r) (in_order : InOrder e r) where
      -- the entries taken at X's turn are those that the sweep finds there
      ahead_before : (X : Bytes) (t : ℕ) → 0 < length (of_key X (kept_replacements e t r.table X))
          → taken_ahead e t r X ≡ taken_before X (kept_entries e t r.table X) (kept_replacements e t r.table X)
      unfolding taken_before
      ahead_before X t kept =
          let b = bucket_of e r.table X in
          let Kept_line = kept_replacements e t r.table X in
          let by_log : Entry → Bool = λ p. proved e r.log p.key in
          ap (taken_after (kept_entries e t r.table X))
          (lower-before (began e r.log) by_log X Kept_line (Rising-select _ (stays_replacement t) b.replacements (in_order (slot e X))) kept
          ∙ select-agree by_log proved_entry (before (is_of X) Kept_line)
          (All-before (λ p. by_log p ≡ proved_entry p) (is_of X) Kept_line
          (All-select (λ p. by_log p ≡ proved_entry p) (stays_replacement t) b.replacements
          (All-imp (λ p. proved_entry p ≡ by_log p) (λ p. by_log p ≡ proved_entry p) (λ p h. sym h) b.replacements (proofs (slot e X))))))
          ∙ taken_by_proved (kept_entries e t r.table X) (before (is_of X) Kept_line)

      pub takes-entry : TakesEntry e r c
      takes-entry X w = (
        λ has. ⊎_elim
            (λ still. absurd (omega (arith, still.no-entry, has)))
            (λ swept.
            let t = swept.0 in
            let is : c ≡ sweep t = swept.1.0 in
            let a : Accepted e r.table (sweep t) = rw is at swept.1.1 in
            let has' : HasEntry e X (next e r.table (sweep t)) = rw is at has in
            let Kept_line = kept_replacements e t r.table X in
            let stay = kept_entries e t r.table X in
            let count = swept-entries e r.table ok X (waits known X w).no-entry t a in
            let kept : 0 < length (of_key X Kept_line) = omega (arith, promoted_or_remaining X stay Kept_line) in
            let room : SeatFor X (taken_ahead e t r X) Kept_line =
            rw (ahead_before X t kept) (promoted-room X stay Kept_line (line-once e r.table ok X (waits known X w) t) (omega arith)) in
            (t, swept.1, kept, room))
            (stays-in-line e r.table ok X (waits known X w) c),
        λ at.
            let t = at.0 in
            let is : c ≡ sweep t = at.1.0 in
            let a : Accepted e r.table (sweep t) = rw is at at.1.1 in
            let Kept_line = kept_replacements e t r.table X in
            let stay = kept_entries e t r.table X in
            let room : SeatFor X (taken_before X stay Kept_line) Kept_line = rw (ahead_before X t at.2) at at.3 in
            rw is
            (omega (
              arith,
              swept-entries e r.table ok X (waits known X w).no-entry t a,
              room-promoted X stay Kept_line (line-proved e r.table ok X (waits known X w) t) at.2 room,
            )),
      )

    -- after a call: promoted, dropped by a sweep, or still in line
    pub stays : (X : Bytes) → ProvedReplacement e X r
        → HasEntry e X (next e r.table c) ⊎ (Drops e X r c ⊎ Waits X (bucket_of e (next e r.table c) X))
    stays X w =
        ⊎_elim (λ still. inr (inr still))
        (λ swept.
        let t = swept.0 in
        let is : c ≡ sweep t = swept.1.0 in
        ⊎_elim (λ has. inl (rw is has))
        (λ more. inr (⊎_elim (λ still. inr (rw is still)) (λ lost. inl (t, swept.1, lost)) more))
        (after-sweep e r.table ok X (waits known X w) t (rw is at swept.1.1)))
        (stays-in-line e r.table ok X (waits known X w) c)

    pub dropped-no-room : (X : Bytes) → Drops e X r c → HasRoomFor e X r c → ⊥
    dropped-no-room X drop room =
        let t = drop.0 in
        let t' = room.0 in
        let one : c ≡ sweep t = drop.1.0 in
        let two : c ≡ sweep t' = room.1.0 in
        let same : t ≡ t' = cc in
        let none : length (of_key X (kept_replacements e t' r.table X)) ≡ 0 = rw same at drop.2 in
        omega (arith, room.2)

pub waits_no_entry : (e : Env) (X : Bytes) (s : Table) → Waits X (bucket_of e s X) → HasEntry e X s → ⊥
waits_no_entry e X s w has = omega (arith, w.no-entry)
