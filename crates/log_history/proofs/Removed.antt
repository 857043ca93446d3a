-- The sweep that removed a node: by its ping, the last recorded and not answered, or by its old proof. Assumes nothing.
use Prim.Native.Nat.{ℕ, suc, ◌+◌, ◌-◌, ◌<◌}
use mathlib.Core.Path.{◌≡◌, refl, sym, ap, ◌∙◌}
use mathlib.Core.Logic.{⊎_elim}
use mathlib.Core.Bool.{Bool, true, false}
use mathlib.Core.List.{List, [], ◌∷◌, ◌++◌, map}
use native.Mathlib.Omega.{arith}
use borrow.Author.Tests.{ltb-true}
use lib.ListN.{length, length-append}
use Rattle.octets.specs.Octets.{Bytes}
use Rattle.octets.proofs.Laws.{same_refl}
use Rattle.lists.specs.Lists.{select, any, All}
use Rattle.lists.proofs.Laws.{by_test, never as clash, or_elim, any_false, select-every, All-select, All-append, All-map, All-imp, All-and, All-left, All-right}
use Rattle.entry.specs.declared.Entry.{Entry}
use Rattle.entry.specs.declared.PingState.{PingState}
use Rattle.entry.specs.declared.PingState.TheVariants.{Quiet, Out}
use Rattle.bucket_model.specs.Rules.{ping_timeout, millis, is_out, is_overdue, proof_expired, stays_entry, stays_replacement}
use Rattle.call_history.specs.Model.{sweep}
use Rattle.log_history.specs.Past.{Asked, call, Stage, stage_after, Moment}
use Rattle.log_history.specs.Why.{seat_in, place_in, held_in, joins, removes, pings, overdue_at, last_line, SweepAt, PingAt, pong_in}
use Rattle.log_history.proofs.Step.{SoundStage, at, Silent, Makes, by_line}
use Rattle.log_history.proofs.Held.{lost, removed-by-sweep}
use Rattle.log_history.proofs.Says.{Ran, start, then, ran_sound}

any_true : {A : Type 0} (P : A → Type 0) (q : A → Bool) (l : List A) → All P l → any q l ≡ true → (a : A) × P a × (q a ≡ true)
any_true P q [] p h = clash (sym h)
any_true P q (a ∷ l) p h = or_elim (q a) (any q l) h (λ g. (a, p.0, g)) (λ g. any_true P q l p.1 g)

-- ---- a ping that is out

overdue_out : (t : ℕ) (pi : PingState) → is_overdue t pi ≡ true → (t₀ : ℕ) × (pi ≡ Out (millis t₀)) × (t₀ + ping_timeout < t)
overdue_out t Quiet h = clash (sym h)
overdue_out t (Out t₀) h = (t₀.0, refl, omega (arith, ltb-true ping_timeout (t - t₀.0) h))

out_since : (a b : ℕ) → Out (millis a) ≡ Out (millis b) → a ≡ b
out_since a b h =
    let same : millis a ≡ millis b = cc in
    ap (λ m. m.0) same

module _ (X : Bytes) where
  -- the last ping recorded for X is of the millisecond t, with no accepted pong from X since
  pub record Recorded (t : ℕ) (log : List Moment) : Type 0 where
    pub between : List Moment
    pub earlier : List Moment
    pub pinging : Moment
    pub split : log ≡ between ++ pinging ∷ earlier
    pub line : last_line (pings X) log ≡ suc (length earlier)
    pub pinged : PingAt X t pinging
    pub no_ping : All (λ v. pings X v ≡ false) between
    pub no_pong : All (λ v. pong_in X v.given v.asks ≡ false) between

  ping-is : (t : ℕ) (v : Moment) → PingAt X t v → pings X v ≡ true
  ping-is t v is = rw (is.done, is.asks, same_refl X)

  recorded-now : (t : ℕ) (v : Moment) (log : List Moment) → PingAt X t v → Recorded t (v ∷ log)
  recorded-now t v log is =
      record {
        between = [];
        earlier = log;
        pinging = v;
        split = refl;
        line = rw (ping-is t v is);
        pinged = is;
        no_ping = tt;
        no_pong = tt;
      }

  recorded-before : (t : ℕ) (v : Moment) (log : List Moment) → Silent X v → Recorded t log → Recorded t (v ∷ log)
  recorded-before t v log silent r =
      record {
        between = v ∷ r.between;
        earlier = r.earlier;
        pinging = r.pinging;
        split = ap (λ l. v ∷ l) r.split;
        line = rw silent.0 r.line;
        pinged = r.pinged;
        no_ping = (silent.0, r.no_ping);
        no_pong = (silent.1, r.no_pong);
      }

  abbrev Pinged : List Moment → Entry → Type 0
  Pinged log p = (t : ℕ) → p.ping ≡ Out (millis t) → Recorded t log

  pinged-after : (v : Moment) (log : List Moment) (p q : Entry) → Makes X v p.ping q.ping → Pinged log p → Pinged (v ∷ log) q
  pinged-after v log p q makes h t out =
      ⊎_elim
      (λ same. recorded-before t v log same.1 (h t (sym same.0 ∙ out)))
      (⊎_elim
      (λ quiet. clash (ap is_out (sym out ∙ quiet)))
      (λ is. rw (out_since is.0 t (sym is.2 ∙ out)) at (recorded-now is.0 v log is.1)))
      makes

  pinged-ran : (st : Stage) (log : List Moment) → Ran st log → All (Pinged log) (seat_in X st) × All (Pinged log) (place_in X st)
  pinged-ran st log start = (tt, tt)
  pinged-ran st log (then {st = st₀} {log = log₀} a r) =
      let v = at st₀ a in
      let es = seat_in X st₀ in
      let rs = place_in X st₀ in
      let was = pinged-ran st₀ log₀ r in
      let P = Pinged log₀ in
      let Q = Pinged (v ∷ log₀) in
      by_line X (λ es' rs'. All Q es' × All Q rs') st₀ a (ran_sound r)
      (record {
        stays = λ f makes. (
          All-map P Q f (λ p. pinged-after v log₀ p (f p) (makes p)) es was.0,
          All-map P Q f (λ p. pinged-after v log₀ p (f p) (makes p)) rs was.1,
        );
        takes = λ f makes. (
          All-append Q (map f es) (map f rs)
              (All-map P Q f (λ p. pinged-after v log₀ p (f p) (makes p)) es was.0)
              (All-map P Q f (λ p. pinged-after v log₀ p (f p) (makes p)) rs was.1),
          tt,
        );
        joins = λ p t _ _ is out. (
          tt,
          ((λ t' out'. rw (out_since t t' (sym out ∙ out')) at (recorded-now t v log₀ is)), tt),
        );
        swept = λ t up line _ silent _ keep.
            let later : (p : Entry) → P p → Q p = λ p h t out. recorded-before t v log₀ silent (h t out) in
            let kept = keep Q (All-imp P Q later rs was.1) in (
              All-append Q (select (stays_entry t) es) up (All-select Q (stays_entry t) es (All-imp P Q later es was.0)) kept.0,
              kept.1,
            );
      })

  -- ---- the sweep that removed X

  module _ (st : Stage) (a : Asked) (ok : SoundStage st) (gone : removes X (at st a) ≡ true) where
    held-before : 0 < length (seat_in X st) + length (place_in X st)
    held-before = simp length-append at (lost (held_in X st) (held_in X (stage_after st a)) gone).0

    pub sweeps : (t : ℕ) × SweepAt t (at st a)
        × (length (select (stays_entry t) (seat_in X st)) ≡ 0)
        × (length (select (stays_replacement t) (place_in X st)) ≡ 0)
    sweeps = removed-by-sweep X st a ok held-before (simp length-append at (lost (held_in X st) (held_in X (stage_after st a)) gone).1)

    -- where its ping isn't overdue, its proof in the line is too old
    pub old-proof : overdue_at X st a ≡ false → any (λ p. proof_expired sweeps.0 p.proof) (place_in X st) ≡ true
    old-proof timely =
        let t = sweeps.0 in
        let es = seat_in X st in
        let rs = place_in X st in
        let is : a ≡ call (sweep t) = sweeps.1.asks in
        let in_time = any_false (λ p. is_overdue t p.ping) (es ++ rs) (rw is at timely) in
        by_test (any (λ p. proof_expired t p.proof) rs)
        (λ h. h)
        (λ h.
        let keeps_es : All (λ p. stays_entry t p ≡ true) es =
        All-imp (λ p. is_overdue t p.ping ≡ false) (λ p. stays_entry t p ≡ true) (λ p g. rw g) es (All-left _ es rs in_time) in
        let keeps_rs : All (λ p. stays_replacement t p ≡ true) rs =
        All-imp (λ p. (is_overdue t p.ping ≡ false) × (proof_expired t p.proof ≡ false)) (λ p. stays_replacement t p ≡ true)
        (λ p g. rw (g.0, g.1)) rs
        (All-and _ _ rs (All-right _ es rs in_time) (any_false (λ p. proof_expired t p.proof) rs h)) in
        let all_es = select-every (stays_entry t) es keeps_es in
        let all_rs = select-every (stays_replacement t) rs keeps_rs in
        absurd (omega (arith, held-before, sweeps.2, sweeps.3)))

    -- where it is, the ping is the last recorded
    pub old-ping : (log : List Moment) → Ran st log → overdue_at X st a ≡ true → (t₀ : ℕ) × Recorded t₀ log × (t₀ + ping_timeout < sweeps.0)
    old-ping log r late =
        let t = sweeps.0 in
        let is : a ≡ call (sweep t) = sweeps.1.asks in
        let known = pinged-ran st log r in
        let found =
        any_true (Pinged log) (λ p. is_overdue t p.ping) (held_in X st)
        (All-append (Pinged log) (seat_in X st) (place_in X st) known.0 known.1) (rw is at late) in
        let out = overdue_out t found.0.ping found.2 in
        (out.0, found.1 out.0 out.1, out.2)
