-- What the table holds of a node is what the log says of it: its ping is the one recorded with no accepted pong since, and it is
-- proved where a pong came in its stay.
use Prim.Native.Nat.{ℕ}
use mathlib.Core.Path.{◌≡◌, refl, ap, sym, ◌∙◌}
use mathlib.Core.Logic.{inl, inr, ⊎_elim}
use mathlib.Core.Bool.{Bool, true, false, ◌&&◌, and-false}
use mathlib.Core.List.{List, [], ◌∷◌, ◌++◌, map}
use borrow.Author.Tests.{eq-eqb, ne_eqb, ltb-true, ltb-false}
use lib.Dec.{ltb, eqb}
use lib.ListN.{length}
use Rattle.octets.specs.Octets.{Bytes, same_bytes}
use Rattle.octets.proofs.Laws.{same_eq, same_refl}
use Rattle.lists.specs.Lists.{select, empty, All}
use Rattle.lists.proofs.Laws.{by_test, never, any_false, All-select, All-append, All-map, All-imp, All-left, All-right, All-and}
use Rattle.entry.specs.declared.Entry.{Entry}
use Rattle.node.specs.declared.MonotonicMillis.{MonotonicMillis}
use Rattle.entry.specs.declared.PingState.TheVariants.{Out}
use Rattle.bucket_model.specs.Contents.{Contents}
use Rattle.bucket_model.specs.Rules.{takes_entry, millis, of_key, held, is_out, is_proved, pinged, ponged, heard, stays_entry, stays_replacement, on_ping_sent, on_pong, on_heard, on_sweep, new_entry}
use Rattle.bucket_model.proofs.View.{Holds, Mapped, kept_entries, kept_replacements, own-heard, own-pong-stays, own-pong-takes, own-pinged, own-joined, own-sweep, of_key_kept}
use Rattle.bucket_model.proofs.Promotion.{of_key-promoted, of_key-remaining}
use Rattle.call_history.specs.Model.{Env, Call, datagram, ping_sent, sweep, closest, unclocked, slot, bucket_of, answer, next, Event, Run, advance}
use Rattle.call_history.specs.Words.{is_pong, PingAt, pong_from, OpenPing, begins, proved}
use Rattle.call_history.proofs.Step.{by_datagram, by_answer, ping-allowed, swept_bucket}
use Rattle.call_history.proofs.Sound.{TableSound}
use Rattle.call_history.proofs.View as View

-- ---- a property of what a bucket holds of one node

abbrev pub Both : (Entry → Type 0) → Bytes → Contents → Type 0
Both P X b = All P (of_key X b.entries) × All P (of_key X b.replacements)

holds_both : (P : Entry → Type 0) (X : Bytes) (b : Contents) (es rs : List Entry) → Holds X b es rs → All P es → All P rs → Both P X b
holds_both P X b es rs h a c = (rw h.entries a, rw h.replacements c)

module _ (P Q : Entry → Type 0) (key : Bytes) (b : Contents) (both : Both P key b) where
  both-mapped : (now : ℕ) (f : Entry → Entry) (c : Contents) → Mapped now key b f c → ((p : Entry) → P p → Q (f p)) → Both Q key c
  both-mapped now f c h g =
      holds_both Q key c (map f (of_key key b.entries)) (map f (of_key key b.replacements)) h
      (All-map P Q f g (of_key key b.entries) both.0) (All-map P Q f g (of_key key b.replacements) both.1)

  both-pong : (now : ℕ) → ((p : Entry) → P p → Q (ponged now p)) → Both Q key (on_pong now key b)
  both-pong now g =
      let es = map (ponged now) (of_key key b.entries) in
      let rs = map (ponged now) (of_key key b.replacements) in
      by_test (takes_entry key b)
      (λ t. holds_both Q key (on_pong now key b) (es ++ rs) [] (own-pong-takes now key b t)
      (All-append Q es rs (All-map P Q (ponged now) g (of_key key b.entries) both.0) (All-map P Q (ponged now) g (of_key key b.replacements) both.1))
      tt)
      (λ t. both-mapped now (ponged now) (on_pong now key b) (own-pong-stays now key b t) g)

  pub both-same : ((p : Entry) → P p → Q p) → Both Q key b
  both-same f = (All-imp P Q f (of_key key b.entries) both.0, All-imp P Q f (of_key key b.replacements) both.1)

  both_ping_sent : (now : ℕ) (address : Bytes) (udp tcp : ℕ) (hash : Bytes)
      → (empty (held key b) ≡ true → Q (new_entry now key address udp tcp hash))
      → (empty (held key b) ≡ false → (p : Entry) → P p → Q (pinged now hash p))
      → Both Q key (on_ping_sent now key address udp tcp hash b)
  both_ping_sent now address udp tcp hash new f =
      by_test (empty (held key b))
      (λ t. holds_both Q key (on_ping_sent now key address udp tcp hash b) [] (new_entry now key address udp tcp hash ∷ [])
      (own-joined now key b address udp tcp hash t) tt (new t, tt))
      (λ t. both-mapped now (pinged now hash) (on_ping_sent now key address udp tcp hash b) (own-pinged now key b address udp tcp hash t) (f t))

pub both_sweep : (P : Entry → Type 0) (X : Bytes) (now : ℕ) (b : Contents) → Both P X b → Both P X (on_sweep now b)
both_sweep P X now b both =
    let line : All P (of_key X (kept_replacements now b)) =
    rw (of_key_kept X now b) (All-select P (stays_replacement now) (of_key X b.replacements) both.1) in
    holds_both P X (on_sweep now b) _ _ (own-sweep X now b)
    (All-append P (select (stays_entry now) (of_key X b.entries)) _
    (All-select P (stays_entry now) (of_key X b.entries) both.0)
    (of_key-promoted P X (kept_entries now b) (kept_replacements now b) line))
    (of_key-remaining P X (kept_entries now b) (kept_replacements now b) line)

-- ---- an entry and the log

pub not_same : (X key : Bytes) → same_bytes X key ≡ false → key ≡ X → ⊥
not_same X key h g = never (sym (rw g (same_refl X)) ∙ h)

quiet_not_out : (p : Entry) (t : ℕ) → is_out p.ping ≡ false → p.ping ≡ Out (millis t) → ⊥
quiet_not_out p t h g = never (sym (ap is_out g) ∙ h)

out_since : (a b : ℕ) → Out (millis a) ≡ Out (millis b) → a ≡ b
out_since a b h =
    let same : millis a ≡ millis b = cc in
    ap (λ (m : MonotonicMillis). m.0) same

module _ (e : Env) where
  pub record Known (X : Bytes) (log : List (Event e)) (p : Entry) : Type 0 where
    -- a ping that is out is recorded, with no pong since
    pub recorded : (t : ℕ) → p.ping ≡ Out (millis t) → OpenPing e X t log
    -- and of a proved node no other is
    pub only : is_proved p.proof ≡ true → (t : ℕ) → OpenPing e X t log → p.ping ≡ Out (millis t)
    pub proved-is : is_proved p.proof ≡ proved e log X

  abbrev pub KnownIn : Bytes → List (Event e) → Contents → Type 0
  KnownIn X log = Both (Known X log) X

  -- an event that is no ping of X's, no pong from X, and puts X into no line
  record Apart (X : Bytes) (v : Event e) : Type 0 where
    no_ping : (t : ℕ) → PingAt e X t v.given v.call → ⊥
    no_pong : pong_from e X v.given v.call ≡ false
    no_start : begins e X v.given v.call ≡ false

  module _ (X : Bytes) (v : Event e) (log : List (Event e)) (apart : Apart X v) where
    shift : (p : Entry) → Known X log p → Known X (v ∷ log) p
    shift p kn =
        record {
          recorded = λ t h. inr (apart.no_pong, kn.recorded t h);
          only = λ h t o. ⊎_elim (λ g. absurd (apart.no_ping t g)) (λ g. kn.only h t g.1) o;
          proved-is = rw (apart.no_start, apart.no_pong) kn.proved-is;
        }

    shift_in : (b : Contents) → KnownIn X log b → KnownIn X (v ∷ log) b
    shift_in b kn = both-same (Known X log) (Known X (v ∷ log)) X b kn shift

  module _ (r : Run e) (ok : TableSound e r.table) (known : (X : Bytes) → KnownIn X r.log (bucket_of e r.table X)) where
    own-datagram : (now unix : ℕ) (address : Bytes) (udp : ℕ) (key bytes : Bytes)
        → KnownIn key (advance e r (datagram now unix address udp key bytes)).log (bucket_of e (next e r.table (datagram now unix address udp key bytes)) key)
    own-datagram now unix address udp key bytes =
        let s = r.table in
        let b = bucket_of e s key in
        let c = datagram now unix address udp key bytes in
        let v : Event e = record { given = s; call = c } in
        let reading = e.read bytes unix in
        View.own-datagram e s ok.sized (KnownIn key (v ∷ r.log)) now unix address udp key bytes
        (λ a.
        let apart : is_pong reading ≡ false → Apart key v =
        λ no. record { no_ping = λ t z. z; no_pong = rw no (simp and-false); no_start = refl } in
        let is-pong : is_pong reading ≡ true → pong_from e key s c ≡ true =
        λ is. rw (same_refl key, is, eq-eqb (answer e s c) 0 a) in
        by_datagram (KnownIn key (v ∷ r.log)) now address udp key reading b
        (λ no. shift_in key v r.log (apart no) b (known key))
        (λ no. both-mapped (Known key r.log) (Known key (v ∷ r.log)) key b (known key) now (heard now) (on_heard now key b) (own-heard now key b)
        (λ p kn.
        let kn' = shift key v r.log (apart no) p kn in
        record { recorded = kn'.recorded; only = kn'.only; proved-is = kn'.proved-is }))
        (λ is. both-pong (Known key r.log) (Known key (v ∷ r.log)) key b (known key) now
        (λ p kn. record {
          recorded = λ t h. never (ap is_out (sym h));
          only = λ h t o. ⊎_elim (λ g. absurd g) (λ g. never (sym (is-pong is) ∙ g.0)) o;
          proved-is = rw (is-pong is);
        })))
        (λ rejected. shift_in key v r.log
        (record { no_ping = λ t z. z; no_pong = rw (ne_eqb (answer e s c) 0 rejected) (simp and-false); no_start = refl }) b (known key))

    own_ping_sent : (now : ℕ) (key address : Bytes) (udp tcp : ℕ) (hash : Bytes)
        → KnownIn key (advance e r (ping_sent now key address udp tcp hash)).log (bucket_of e (next e r.table (ping_sent now key address udp tcp hash)) key)
    own_ping_sent now key address udp tcp hash =
        let s = r.table in
        let c = ping_sent now key address udp tcp hash in
        let v : Event e = record { given = s; call = c } in
        let b = bucket_of e s key in
        let es = of_key key b.entries in
        let rs = of_key key b.replacements in
        View.own_ping_sent e s ok.sized (KnownIn key (v ∷ r.log)) now key address udp tcp hash
        (λ a.
        let allowed = ping-allowed e s now key address udp tcp hash a in
        let still = any_false (λ p. is_out p.ping) (held key b) allowed.none_out in
        let P : Entry → Type 0 = λ p. Known key r.log p × (is_out p.ping ≡ false) in
        let both : Both P key b = (
          All-and (Known key r.log) (λ p. is_out p.ping ≡ false) es (known key).0 (All-left _ es rs still),
          All-and (Known key r.log) (λ p. is_out p.ping ≡ false) rs (known key).1 (All-right _ es rs still),
        ) in
        both_ping_sent P (Known key (v ∷ r.log)) key b both now address udp tcp hash
        (λ new.
        let put : begins e key s c ≡ true = rw (same_refl key, eq-eqb (answer e s c) 0 a, new) in
        record {
          recorded = λ t g. inl (refl, out_since now t g, a);
          only = λ g t o. never (sym g);
          proved-is = rw put;
        })
        (λ old p kn.
        let stay : begins e key s c ≡ false = rw old (simp and-false) in
        record {
          recorded = λ t g. inl (refl, out_since now t g, a);
          only = λ is-proved t o. ⊎_elim (λ g. ap (λ n. Out (millis n)) g.1) (λ g. absurd (quiet_not_out p t kn.1 (kn.0.only is-proved t g.1))) o;
          proved-is = rw stay kn.0.proved-is;
        }))
        (λ rejected. shift_in key v r.log
        (record {
          no_ping = λ t g. rejected g.2;
          no_pong = refl;
          no_start = rw (ne_eqb (answer e s c) 0 rejected) (simp and-false);
        }) b (known key))

    pub advance-known : (c : Call) (X : Bytes) → KnownIn X (advance e r c).log (bucket_of e (next e r.table c) X)
    advance-known (datagram now unix address udp key bytes) X =
        by_test (same_bytes X key)
        (λ h. rw (same_eq X key h) (own-datagram now unix address udp key bytes))
        (λ h.
        let same = View.other-datagram e r.table ok.sized X key h now unix address udp bytes in
        let kn = shift_in X (record { given = r.table; call = datagram now unix address udp key bytes }) r.log
        (record { no_ping = λ t z. z; no_pong = ap (λ (b : Bool). b && (is_pong (e.read bytes unix) && eqb (answer e r.table (datagram now unix address udp key bytes)) 0)) h; no_start = refl }) (bucket_of e r.table X) (known X) in
        holds_both _ X _ _ _ same kn.0 kn.1)
    advance-known (ping_sent now key address udp tcp hash) X =
        by_test (same_bytes X key)
        (λ h. rw (same_eq X key h) (own_ping_sent now key address udp tcp hash))
        (λ h.
        let same = View.other_ping_sent e r.table ok.sized X key h now address udp tcp hash in
        let kn = shift_in X (record { given = r.table; call = ping_sent now key address udp tcp hash }) r.log
        (record { no_ping = λ t o. not_same X key h o.0; no_pong = refl; no_start = rw h }) (bucket_of e r.table X) (known X) in
        holds_both _ X _ _ _ same kn.0 kn.1)
    advance-known (sweep now) X =
        let kn = shift_in X (record { given = r.table; call = sweep now }) r.log
        (record { no_ping = λ t z. z; no_pong = refl; no_start = refl }) (bucket_of e r.table X) (known X) in
        by_answer e (λ s'. KnownIn X (advance e r (sweep now)).log (bucket_of e s' X)) r.table (sweep now)
        (λ a. rw (swept_bucket e r.table now (slot e X)) (both_sweep _ X now (bucket_of e r.table X) kn))
        (λ _. kn)
    advance-known (closest target room) X =
        let kn = shift_in X (record { given = r.table; call = closest target room }) r.log
        (record { no_ping = λ t z. z; no_pong = refl; no_start = refl }) (bucket_of e r.table X) (known X) in
        by_answer e (λ s'. KnownIn X (advance e r (closest target room)).log (bucket_of e s' X)) r.table (closest target room)
        (λ _. kn) (λ _. kn)
    advance-known (unclocked c) X =
        shift_in X (record { given = r.table; call = unclocked c }) r.log
        (record { no_ping = λ t z. z; no_pong = refl; no_start = refl }) (bucket_of e r.table X) (known X)
