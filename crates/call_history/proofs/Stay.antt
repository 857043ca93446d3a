-- A stay in line: how a node comes into a line, and that the line's proofs are those of its nodes' stays.
use Prim.Native.Nat.{ℕ, ◌<◌}
use mathlib.Core.Path.{◌≡◌, ap, sym, ◌∙◌}
use mathlib.Core.Logic.{inl, inr}
use mathlib.Core.Bool.{true, false, ◌&&◌}
use mathlib.Core.List.{List, [], ◌∷◌}
use native.Mathlib.Omega.{arith}
use borrow.Author.Tests.{eq-eqb, eqb-true, ltb-true, ltb-false}
use lib.Dec.{eqb, ltb}
use lib.ListN.{length, length-map}
use Rattle.octets.specs.Octets.{Bytes, same_bytes}
use Rattle.octets.proofs.Laws.{same_eq, same_refl}
use Rattle.lists.specs.Lists.{empty, All}
use Rattle.lists.proofs.Laws.{by_test, never, and_left, and_right, length-select, All-imp}
use Rattle.entry.specs.declared.Entry.{Entry}
use Rattle.bucket_model.specs.Contents.{Contents}
use Rattle.bucket_model.specs.Rules.{takes_entry, is_of, of_key, held, is_proved, pinged, ponged, heard, stays_replacement, on_ping_sent, on_pong, on_heard}
use Rattle.bucket_model.proofs.Keys.{promoted_or_remaining}
use Rattle.bucket_model.proofs.View.{Mapped, kept_entries, kept_replacements, own-heard, own-pong-stays, own-pong-takes, own-pinged, own-joined, own-sweep, of_key_kept}
use Rattle.call_history.specs.Model.{Env, Reading, Call, datagram, ping_sent, sweep, closest, unclocked, Table, slot, bucket_at, bucket_of, answer, on_datagram, next, Run, advance}
use Rattle.call_history.specs.Words.{OwnBucket, replacement_of, IsReplacement, begins, proved}
use Rattle.call_history.specs.Demand3.{StayBegins, StayLasts, ProvedByPong}
use Rattle.call_history.proofs.Step.{by_datagram, by_answer, swept_bucket}
use Rattle.call_history.proofs.Sound.{TableSound, own-buckets}
use Rattle.call_history.proofs.View as View
use Rattle.call_history.proofs.Log.{Known, KnownIn}

-- ---- how a node comes into a line

count_replacements : (now : ℕ) (key : Bytes) (b : Contents) (f : Entry → Entry) (c : Contents) → Mapped now key b f c
    → length (of_key key c.replacements) ≡ length (of_key key b.replacements)
count_replacements now key b f c h = rw h.replacements (simp length-map)

module _ (now : ℕ) (key : Bytes) (b : Contents) (none : length (of_key key b.replacements) ≡ 0) where
  abbrev None : Contents → Type 0
  None c = length (of_key key c.replacements) ≡ 0

  datagram-none : (address : Bytes) (udp : ℕ) (r : Reading) → None (on_datagram now address udp key r b)
  datagram-none address udp r =
      by_datagram None now address udp key r b
      (λ _. none)
      (λ _. count_replacements now key b (heard now) (on_heard now key b) (own-heard now key b) ∙ none)
      (λ _. by_test (takes_entry key b)
      (λ g. rw (own-pong-takes now key b g).replacements)
      (λ g. count_replacements now key b (ponged now) (on_pong now key b) (own-pong-stays now key b g) ∙ none))

  pinged-none : (address : Bytes) (udp tcp : ℕ) (hash : Bytes) → empty (held key b) ≡ false → None (on_ping_sent now key address udp tcp hash b)
  pinged-none address udp tcp hash old =
      count_replacements now key b (pinged now hash) (on_ping_sent now key address udp tcp hash b) (own-pinged now key b address udp tcp hash old) ∙ none

module _ (e : Env) (s : Table) (ok : TableSound e s) (X : Bytes) where
  -- a call that begins no stay of X puts X into no line
  stays_out : length (replacement_of e X s) ≡ 0 → (c : Call) → begins e X s c ≡ false → length (replacement_of e X (next e s c)) ≡ 0
  stays_out none (datagram now unix address udp key bytes) h =
      by_test (same_bytes X key)
      (λ g.
      let own : length (replacement_of e key s) ≡ 0 = rw (same_eq X key g) at none in
      rw (same_eq X key g)
      (View.own-datagram e s ok.sized (λ b. length (of_key key b.replacements) ≡ 0) now unix address udp key bytes
      (λ _. datagram-none now key (bucket_of e s key) own address udp (e.read bytes unix)) (λ _. own)))
      (λ g. rw (View.other-datagram e s ok.sized X key g now unix address udp bytes).replacements none)
  stays_out none (ping_sent now key address udp tcp hash) h =
      let c = ping_sent now key address udp tcp hash in
      by_test (same_bytes X key)
      (λ g.
      let own : length (replacement_of e key s) ≡ 0 = rw (same_eq X key g) at none in
      rw (same_eq X key g)
      (View.own_ping_sent e s ok.sized (λ b. length (of_key key b.replacements) ≡ 0) now key address udp tcp hash
      (λ a.
      let old : empty (held key (bucket_of e s key)) ≡ false = rw (g, eq-eqb (answer e s c) 0 a) at h in
      pinged-none now key (bucket_of e s key) own address udp tcp hash old)
      (λ _. own)))
      (λ g. rw (View.other_ping_sent e s ok.sized X key g now address udp tcp hash).replacements none)
  stays_out none (sweep now) h =
      let b = bucket_of e s X in
      by_answer e (λ s'. length (replacement_of e X s') ≡ 0) s (sweep now)
      (λ _. rw (swept_bucket e s now (slot e X), (own-sweep X now b).replacements)
      (omega (
        arith,
        promoted_or_remaining X (kept_entries now b) (kept_replacements now b),
        ap length (of_key_kept X now b),
        length-select (stays_replacement now) (of_key X b.replacements),
      )))
      (λ _. none)
  stays_out none (closest target room) h =
      by_answer e (λ s'. length (replacement_of e X s') ≡ 0) s (closest target room) (λ _. none) (λ _. none)
  stays_out none (unclocked c) h = none

  joins : (c : Call) → begins e X s c ≡ true → IsReplacement e X (next e s c)
  joins (datagram now unix address udp key bytes) h = never (sym h)
  joins (ping_sent now key address udp tcp hash) h =
      let c = ping_sent now key address udp tcp hash in
      let b = bucket_of e s key in
      let is = same_eq X key (and_left (same_bytes X key) (eqb (answer e s c) 0 && empty (held key b)) h) in
      let rest = and_right (same_bytes X key) (eqb (answer e s c) 0 && empty (held key b)) h in
      let new = and_right (eqb (answer e s c) 0) (empty (held key b)) rest in
      let a = eqb-true (answer e s c) 0 (and_left (eqb (answer e s c) 0) (empty (held key b)) rest) in
      rw is
      (View.own_ping_sent e s ok.sized (λ b. 0 < length (of_key key b.replacements)) now key address udp tcp hash
      (λ _. rw (own-joined now key b address udp tcp hash new).replacements (omega arith))
      (λ rejected. absurd (rejected a)))
  joins (sweep now) h = never (sym h)
  joins (closest target room) h = never (sym h)
  joins (unclocked c) h = never (sym h)

pub stay_begins : (e : Env) (r : Run e) → TableSound e r.table → (c : Call) → StayBegins e r c
stay_begins e r ok c X out = (
  λ now-in.
      by_test (begins e X r.table c)
      (λ g. g)
      (λ g.
      let none : length (replacement_of e X r.table) ≡ 0 = omega arith in
      absurd (omega (arith, stays_out e r.table ok X none c g, now-in))),
  λ h. joins e r.table ok X c h,
)

pub stay_lasts : (e : Env) (r : Run e) → TableSound e r.table → StayLasts e r → (c : Call) → StayLasts e (advance e r c)
stay_lasts e r ok lasts c X in_line =
    by_test (ltb 0 (length (replacement_of e X r.table)))
    (λ g.
    let was : IsReplacement e X r.table = ltb-true 0 (length (replacement_of e X r.table)) g in
    inr (was, lasts X was))
    (λ g.
    let out = ltb-false 0 (length (replacement_of e X r.table)) g in
    inl ((stay_begins e r ok c X (λ was. omega arith)).0 in_line))

-- ---- the proofs of a line

-- what holds of the entries of each key, among those of which C holds, holds of each entry
each_own : (C : Bytes → Type 0) (P : Bytes → Entry → Type 0) (l : List Entry)
    → ((X : Bytes) → C X → All (P X) (of_key X l)) → All (λ p. C p.key) l → All (λ p. P p.key p) l
each_own C P [] h c = tt
each_own C P (p ∷ l) h c =
    let own : All (P p.key) (p ∷ of_key p.key l) = rw (same_refl p.key) at (h p.key c.0) in
    (own.0, each_own C P l rest c.1)
  where
    rest : (X : Bytes) → C X → All (P X) (of_key X l)
    rest X x =
        by_test (is_of X p)
        (λ g. let all : All (P X) (p ∷ of_key X l) = rw g at (h X x) in all.1)
        (λ g. rw g at (h X x))

pub proved_by_pong : (e : Env) (r : Run e) → TableSound e r.table → ((X : Bytes) → KnownIn e X r.log (bucket_of e r.table X))
    → ProvedByPong e r
proved_by_pong e r ok known i =
    let line = (bucket_at e r.table i).replacements in
    each_own (λ X. slot e X ≡ i) (λ X p. is_proved p.proof ≡ proved e r.log X) line
    (λ X is. rw is at
    (All-imp (Known e X r.log) (λ p. is_proved p.proof ≡ proved e r.log X) (λ p kn. kn.proved-is) (replacement_of e X r.table) (known X).1))
    (All-imp (λ p. OwnBucket e i p.key) (λ p. slot e p.key ≡ i) (λ p own. own.2) line (own-buckets e r.table ok i).1)
