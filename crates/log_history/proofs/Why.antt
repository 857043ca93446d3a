-- The reason told is the one that the log's run gives, for every key and every log. Assumes nothing.
use Prim.Native.Nat.{ℕ, suc, ◌+◌, ◌<◌, ◌≤◌}
use mathlib.Core.Path.{◌≡◌, refl, sym, ap, ◌∙◌}
use mathlib.Core.Bool.{Bool, true, false}
use mathlib.Core.List.{List, [], ◌∷◌, map}
use native.Mathlib.Omega.{arith}
use borrow.Author.Tests.{not-true, not-false}
use lib.ListN.{length, length-append}
use Rattle.octets.specs.Octets.{Bytes}
use Rattle.lists.specs.Lists.{any, empty}
use Rattle.lists.proofs.Laws.{by_test, never as clash, and_left, any_false}
use Rattle.text.specs.Lines.{lines_of}
use Rattle.log_lines.specs.Lines.{held}
use Rattle.entry.specs.declared.Entry.{Entry}
use Rattle.log_history.specs.declared.Reason.{Reason}
use Rattle.log_history.specs.declared.Reason.TheVariants.{Seated, Waiting, Ping, Proof, Never, Unnamed}
use Rattle.log_history.specs.Past.{Stage, before, stage_after, Moment, Past, asked, past_of}
use Rattle.log_history.specs.Why.{seat_in, place_in, held_in, tails, names, pings, overdue_at, last_line, last_number, not_held, removed_at, latest, told, says_seated, says_waiting, says_removed, was_held, PingAt, ForPing, ForProof, Since, LastAt, LastAnswer, NeverHeld, WhyHolds}
use Rattle.log_history.specs.Claims.{WhyAlways}
use Rattle.log_history.proofs.Step.{at}
use Rattle.log_history.proofs.Held.{is-empty, empty-is, gained, joined-by-ping}
use Rattle.log_history.proofs.Removed.{sweeps, old-proof, old-ping}
use Rattle.log_history.proofs.Tails.{tails_as}
use Rattle.log_history.proofs.Says.{Ran, start, then, ran, ran_sound, by_latest, says, unnamed-unheld}

last_at : (q : Moment → Bool) (log : List Moment) → 0 < last_line q log → LastAt q log (last_line q log)
last_at q [] h = absurd (omega arith)
last_at q (v ∷ log) h =
    by_test (q v)
    (λ g. record { later = []; earlier = log; there = v; split = refl; line_m = rw g; holds = g; none_later = tt })
    (λ g.
    let r = last_at q log (rw g at h) in
    record {
      later = v ∷ r.later;
      earlier = r.earlier;
      there = r.there;
      split = ap (λ l. v ∷ l) r.split;
      line_m = rw g r.line_m;
      holds = r.holds;
      none_later = (g, r.none_later);
    })

last_answer : (X : Bytes) (log : List Moment) → any (names X) log ≡ true → LastAnswer X log (last_number X log)
last_answer X [] h = clash (sym h)
last_answer X (v ∷ log) h =
    by_test (names X v)
    (λ g. record {
      line = suc (length log);
      last = record { later = []; earlier = log; there = v; split = refl; line_m = refl; holds = g; none_later = tt };
      number = rw g;
    })
    (λ g.
    let r = last_answer X log (rw g at h) in
    record {
      line = r.line;
      last = record {
        later = v ∷ r.last.later;
        earlier = r.last.earlier;
        there = r.last.there;
        split = ap (λ l. v ∷ l) r.last.split;
        line_m = r.last.line_m;
        holds = r.last.holds;
        none_later = (g, r.last.none_later);
      };
      number = rw g r.number;
    })

module _ (X : Bytes) where
  -- ---- a line more

  since-later : (place : Bytes → Stage → List Entry) (v : Moment) (log : List Moment) (n : ℕ) → empty (place X v.given) ≡ false
      → Since place X log n → Since place X (v ∷ log) n
  since-later place v log n has r =
      record {
        later = v ∷ r.later;
        earlier = r.earlier;
        there = r.there;
        split = ap (λ l. v ∷ l) r.split;
        line_n = r.line_n;
        not_before = r.not_before;
        ever_since = (has, r.ever_since);
      }

  since-here : (place : Bytes → Stage → List Entry) (v : Moment) (log : List Moment) (n : ℕ) → empty (place X v.given) ≡ true
      → n ≡ suc (length log) → Since place X (v ∷ log) n
  since-here place v log n none is =
      record { later = []; earlier = log; there = v; split = refl; line_n = is; not_before = none; ever_since = tt }

  since-within : (place : Bytes → Stage → List Entry) (log : List Moment) (n : ℕ) → Since place X log n → n ≤ length log
  since-within place log n r =
      omega (arith, r.line_n, ap length r.split, length-append r.later (r.there ∷ r.earlier))

  ping-later : (v : Moment) (log : List Moment) (n m : ℕ) → empty (held_in X v.given) ≡ true → ForPing X log n m → ForPing X (v ∷ log) n m
  ping-later v log n m none r =
      record {
        later = v ∷ r.later;
        between = r.between;
        earlier = r.earlier;
        sweeping = r.sweeping;
        pinging = r.pinging;
        split = ap (λ l. v ∷ l) r.split;
        line_n = r.line_n;
        line_m = r.line_m;
        t₀ = r.t₀;
        t = r.t;
        swept = r.swept;
        removed = r.removed;
        not_since = (none, r.not_since);
        pinged = r.pinged;
        overdue = r.overdue;
        no_ping = r.no_ping;
        no_pong = r.no_pong;
      }

  proof-later : (v : Moment) (log : List Moment) (n : ℕ) → empty (held_in X v.given) ≡ true → ForProof X log n → ForProof X (v ∷ log) n
  proof-later v log n none r =
      record {
        later = v ∷ r.later;
        earlier = r.earlier;
        sweeping = r.sweeping;
        split = ap (λ l. v ∷ l) r.split;
        line_n = r.line_n;
        t = r.t;
        swept = r.swept;
        removed = r.removed;
        not_since = (none, r.not_since);
        old = r.old;
        no_ping = r.no_ping;
      }

  removed_says : (v : Moment) (log : List Moment) → says_removed (removed_at X v log) ≡ true
  removed_says v log = by_test (overdue_at X v.given v.asks) (λ g. rw g) (λ g. rw g)

  -- ---- the reason by the line that gave it; `all` is the whole log's lines

  module _ (all : List Moment) where
    -- n is where the seat began, m the last line of the whole log that put it at the tail
    abbrev Seat : List Moment → ℕ → ℕ → Type 0
    Seat log n m = Since seat_in X log n × (n ≤ last_line (tails X) log) × (m ≡ last_line (tails X) all)

    tail-later : (v : Moment) (log : List Moment) (n : ℕ) → n ≤ length log → n ≤ last_line (tails X) log → n ≤ last_line (tails X) (v ∷ log)
    tail-later v log n inside h = by_test (tails X v) (λ g. rw g (omega arith)) (λ g. rw g h)

    seat-in : (st : Stage) (log : List Moment) → Ran st log → (n m : ℕ) → latest X all log ≡ Seated n m → Seat log n m
    seat-in st log start n m = λ h. clash (sym (ap says_seated h) ∙ (says X all (before false) [] start).seat)
    seat-in st log (then {st = st₀} {log = log₀} a r) n m =
        let v = at st₀ a in
        by_latest X all (λ w. w ≡ Seated n m → Seat (v ∷ log₀) n m) v log₀
        (λ s h.
        let n_is : n ≡ suc (length log₀) = cc in
        let m_is : m ≡ last_line (tails X) all = cc in (
          since-here seat_in v log₀ n (empty-is (seat_in X st₀) (gained (seat_in X st₀) (seat_in X (stage_after st₀ a)) s).0) n_is,
          rw (s, n_is) (omega arith),
          m_is,
        ))
        (λ s j h. clash (ap says_waiting h))
        (λ e h. clash (sym (removed_says v log₀) ∙ ap says_removed h))
        (λ s j e h.
        let before_it = seat-in st₀ log₀ r n m h in
        let has : empty (seat_in X st₀) ≡ false = not-true (empty (seat_in X st₀)) (sym (says X all st₀ log₀ r).seat ∙ ap says_seated h) in
        let inside = since-within seat_in log₀ n before_it.0 in
        (since-later seat_in v log₀ n has before_it.0, tail-later v log₀ n inside before_it.1, before_it.2))

    place-in : (st : Stage) (log : List Moment) → Ran st log → (n : ℕ) → latest X all log ≡ Waiting n
        → (since : Since place_in X log n) × ((t : ℕ) × PingAt X t since.there)
    unfolding since-here since-later
    place-in st log start n = λ h. clash (sym (ap says_waiting h) ∙ (says X all (before false) [] start).place)
    place-in st log (then {st = st₀} {log = log₀} a r) n =
        let v = at st₀ a in
        by_latest X all (λ w. w ≡ Waiting n → (since : Since place_in X (v ∷ log₀) n) × ((t : ℕ) × PingAt X t since.there)) v log₀
        (λ s h. clash (ap says_seated h))
        (λ s j h.
        let n_is : n ≡ suc (length log₀) = cc in
        let joined = gained (held_in X st₀) (place_in X (stage_after st₀ a)) j in
        let none : length (seat_in X st₀) + length (place_in X st₀) ≡ 0 = simp length-append at joined.0 in
        (since-here place_in v log₀ n (empty-is (place_in X st₀) (omega arith)) n_is, (joined-by-ping X st₀ a (ran_sound r) none joined.1).1))
        (λ e h. clash (sym (removed_says v log₀) ∙ ap says_removed h))
        (λ s j e h.
        let before_it = place-in st₀ log₀ r n h in
        let has : empty (place_in X st₀) ≡ false = not-true (empty (place_in X st₀)) (sym (says X all st₀ log₀ r).place ∙ ap says_waiting h) in
        (since-later place_in v log₀ n has before_it.0, before_it.1))

    -- who is told to be removed isn't held
    gone-since : (st : Stage) (log : List Moment) → Ran st log → says_removed (latest X all log) ≡ true → empty (held_in X st) ≡ true
    gone-since st log r h = and_left (empty (held_in X st)) (was_held X log) (sym (says X all st log r).gone ∙ h)

    ping-in : (st : Stage) (log : List Moment) → Ran st log → (n m : ℕ) → latest X all log ≡ Ping n m → ForPing X log n m
    ping-in st log start n m = λ h. clash (sym (ap says_removed h) ∙ (says X all (before false) [] start).gone)
    ping-in st log (then {st = st₀} {log = log₀} a r) n m =
        let v = at st₀ a in
        by_latest X all (λ w. w ≡ Ping n m → ForPing X (v ∷ log₀) n m) v log₀
        (λ s h. clash (ap says_seated h))
        (λ s j h. clash (ap says_waiting h))
        (λ e. by_test (overdue_at X st₀ a)
        (λ g. rw g (λ h.
        let n_is : n ≡ suc (length log₀) = cc in
        let m_is : m ≡ last_line (pings X) log₀ = cc in
        let swept = sweeps X st₀ a (ran_sound r) e in
        let old = old-ping X st₀ a (ran_sound r) e log₀ r g in
        let rec = old.1 in
        record {
          later = [];
          between = rec.between;
          earlier = rec.earlier;
          sweeping = v;
          pinging = rec.pinging;
          split = ap (λ l. v ∷ l) rec.split;
          line_n = n_is ∙ ap (λ l. suc (length l)) rec.split;
          line_m = m_is ∙ rec.line;
          t₀ = old.0;
          t = swept.0;
          swept = swept.1;
          removed = e;
          not_since = tt;
          pinged = rec.pinged;
          overdue = old.2;
          no_ping = rec.no_ping;
          no_pong = rec.no_pong;
        }))
        (λ g. rw g (λ h. clash (let z : true ≡ false = cc in z))))
        (λ s j e h. ping-later v log₀ n m (gone-since st₀ log₀ r (ap says_removed h)) (ping-in st₀ log₀ r n m h))

    proof-in : (st : Stage) (log : List Moment) → Ran st log → (n : ℕ) → latest X all log ≡ Proof n → ForProof X log n
    proof-in st log start n = λ h. clash (sym (ap says_removed h) ∙ (says X all (before false) [] start).gone)
    proof-in st log (then {st = st₀} {log = log₀} a r) n =
        let v = at st₀ a in
        by_latest X all (λ w. w ≡ Proof n → ForProof X (v ∷ log₀) n) v log₀
        (λ s h. clash (ap says_seated h))
        (λ s j h. clash (ap says_waiting h))
        (λ e. by_test (overdue_at X st₀ a)
        (λ g. rw g (λ h. clash (let z : true ≡ false = cc in z)))
        (λ g. rw g (λ h.
        let n_is : n ≡ suc (length log₀) = cc in
        let swept = sweeps X st₀ a (ran_sound r) e in
        record {
          later = [];
          earlier = log₀;
          sweeping = v;
          split = refl;
          line_n = n_is;
          t = swept.0;
          swept = swept.1;
          removed = e;
          not_since = tt;
          old = old-proof X st₀ a (ran_sound r) e g;
          no_ping = g;
        })))
        (λ s j e h. proof-later v log₀ n (gone-since st₀ log₀ r (ap says_removed h)) (proof-in st₀ log₀ r n h))

    -- a reason of who isn't seated, waiting or removed is `not_held`
    not-held : (st : Stage) (log : List Moment) → Ran st log → (w : Reason) → says_seated w ≡ false → says_waiting w ≡ false → says_removed w ≡ false
        → latest X all log ≡ w → not_held X all ≡ w
    unfolding latest
    not-held st log start w s j e = λ h. h
    not-held st log (then {st = st₀} {log = log₀} a r) w s j e =
        let v = at st₀ a in
        by_latest X all (λ u. u ≡ w → not_held X all ≡ w) v log₀
        (λ _ h. clash (ap says_seated h ∙ s))
        (λ _ _ h. clash (ap says_waiting h ∙ j))
        (λ _ h. clash (sym (removed_says v log₀) ∙ (ap says_removed h ∙ e)))
        (λ _ _ _ h. not-held st₀ log₀ r w s j e h)

  -- ---- the claim

  module _ (st : Stage) (log : List Moment) (r : Ran st log) where
    abbrev past : Past
    past = record { stage = st; lines = log }

    never-in : (a : ℕ) → told X past ≡ Never a → NeverHeld X past × LastAnswer X log a
    never-in a h =
        let s = says X log st log r in
        let no_seat = not-false (empty (seat_in X st)) (sym s.seat ∙ ap says_seated h) in
        let no_place = not-false (empty (place_in X st)) (sym s.place ∙ ap says_waiting h) in
        let none : empty (held_in X st) ≡ true =
        empty-is (held_in X st) (simp length-append (omega (arith, is-empty (seat_in X st) no_seat, is-empty (place_in X st) no_place))) in
        let unheld : was_held X log ≡ false = rw none at (sym s.gone ∙ ap says_removed h) in
        let is = not-held log st log r (Never a) refl refl refl h in
        ((unheld, none), answered is)
      where
        answered : not_held X log ≡ Never a → LastAnswer X log a
        answered =
            by_test (any (names X) log)
            (λ g. rw g (λ h. let same : last_number X log ≡ a = cc in rw same at (last_answer X log g)))
            (λ g. rw g (λ h. clash (let z : true ≡ false = cc in z)))

    unnamed-in : told X past ≡ Unnamed → any (names X) log ≡ false
    unnamed-in h = go (not-held log st log r Unnamed refl refl refl h)
      where
        go : not_held X log ≡ Unnamed → any (names X) log ≡ false
        go =
            by_test (any (names X) log)
            (λ g. rw g (λ h. clash (let z : true ≡ false = cc in z)))
            (λ g. λ h. g)

    why-holds : WhyHolds X past
    why-holds =
        let s = says X log st log r in
        record {
          seated_says = s.seat;
          waiting_says = s.place;
          removed_says = s.gone;
          held_named = λ h.
              let none = unnamed-unheld X st log r (any_false (names X) log h) in
              (none.0, empty-is (held_in X st) (simp length-append none.1));
          for_seat = λ n m h.
              let seat = seat-in log st log r n m h in
              let m_is : m ≡ last_line (tails X) log = seat.2 in
              (seat.0, rw m_is (last_at (tails X) log (omega (arith, seat.0.line_n, seat.1))), rw m_is seat.1);
          for_place = place-in log st log r;
          for_ping = ping-in log st log r;
          for_proof = proof-in log st log r;
          tails_are = tails_as X st log r;
          for_never = never-in;
          for_unnamed = unnamed-in;
        }

pub why_always : WhyAlways
why_always X log = why-holds X (past_of log).stage (past_of log).lines (ran (map (λ l. asked (held l)) (lines_of log)))
