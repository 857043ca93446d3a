-- What a line does to a node, as the code finds it, is what the run says. Assumes nothing.
use Prim.Native.Nat.{ℕ, suc, ◌+◌, ◌≤◌}
use mathlib.Core.Path.{◌≡◌, refl, sym, ap, ap₂, ◌∙◌}
use mathlib.Core.Bool.{Bool, true, false, not, ◌&&◌, ◌||◌}
use mathlib.Core.List.{List, [], ◌∷◌, ◌++◌}
use native.Mathlib.Omega.{arith}
use lib.Dec.{eqb}
use lib.ListN.{length, length-append}
use Rattle.octets.specs.Octets.{Bytes, same_bytes}
use Rattle.lists.specs.Lists.{any, empty}
use Rattle.lists.proofs.Laws.{by_test, never, nil}
use Rattle.entry.specs.declared.Entry.{Entry}
use Rattle.bucket.specs.declared.Position.{Position}
use Rattle.bucket.specs.declared.Position.TheVariants.{Absent, InEntries, InReplacements}
use Rattle.bucket_model.specs.Contents.{no_contents}
use Rattle.bucket_model.specs.Rules.{is_verified, is_overdue}
use Rattle.bucket_model.proofs.View.{SameAs}
use Rattle.bucket_lookup.specs.declared.Lookup.{Lookup}
use Rattle.bucket_lookup.specs.Steps.{only_at, found}
use Rattle.call_history.specs.Model.{Env, Call, datagram, ping_sent, sweep, closest, unclocked, Table, fresh, slot, bucket_of, answer, next}
use Rattle.call_history.proofs.Step.{fresh-bucket}
use Rattle.call_history.proofs.View.{other-datagram, other_ping_sent}
use Rattle.call_history.specs.Words.{is_pong, entry_of, replacement_of}
use Rattle.call_model.specs.Reading.{reading}
use Rattle.log_state.specs.State.{State}
use Rattle.log_own.specs.OwnLine.{own_number}
use Rattle.log_history.specs.Past.{Asked, own, call, unreadable, Stage, before, running, rules_for, number_at, stage_after}
use Rattle.log_history.specs.Why.{seat_in, place_in, held_in, moves, named_in, is_ping_to, overdue_at}
use Rattle.log_history.specs.declared.Trail.{Trail}
use Rattle.log_history.specs.Trail.{trail_after}
use Rattle.log_run.proofs.Kept.{Kept, none, some}
use Rattle.log_acts.specs.declared.Acted.{Acted}
use Rattle.log_acts.specs.Acts.{idle, acts_by, acts_of}
use Rattle.log_why.specs.Steps.{seats_by, joins_by, removes_by, standing_by, trail_by}
use Rattle.log_why.specs.Tracking.{Stands}
use Rattle.log_acts.proofs.Leaves.{not_not}

-- ---- at most one entry is found

few : (p : Position) (e : Entry) → length (only_at p e) ≤ 1
few Absent e = omega arith
few (InEntries i) e = omega arith
few (InReplacements i) e = omega arith

-- one list of two that together have at most one
alone : (f s p : List Entry) → length f ≤ 1 → f ≡ s ++ p → empty s ≡ false → (f ≡ s) × (p ≡ [])
alone f [] p h e n = absurd (let z : ◌≡◌ {A = Bool} true false = n in let o : ◌≡◌ {A = ℕ} 0 1 = cc in omega arith)
alone f (x ∷ s) p h e n =
    let sizes : length f ≡ suc (length (s ++ p)) = ap length e in
    let both : length (s ++ p) ≡ length s + length p = length-append s p in
    let none_left : s ≡ [] = nil s (omega arith) in
    let none_in_line : p ≡ [] = nil p (omega arith) in
    (e ∙ rw (none_left, none_in_line) refl, none_in_line)

module _ (s p f : List Entry) (few-found : length f ≤ 1) (is : f ≡ s ++ p) where
  -- it waits where it is held and has no seat
  waits : (not (empty f) && not (not (empty s))) ≡ not (empty p)
  waits =
      by_test (empty s)
      (λ t. let none_seated : s ≡ [] = nothing s t in rw (is, none_seated) (by_line p))
      (λ t. let only = alone f s p few-found is t in rw (t, only.1) (none_of (not (empty f))))
    where
      nothing : (s : List Entry) → empty s ≡ true → s ≡ []
      nothing [] h = refl
      nothing (x ∷ s) h = never (sym h)

      by_line : (p : List Entry) → (not (empty p) && true) ≡ not (empty p)
      by_line [] = refl
      by_line (x ∷ p) = refl

      none_of : (b : Bool) → (b && false) ≡ false
      none_of true = refl
      none_of false = refl

  -- what is found of a seated node is its seat
  seat-found : (b : Bool) (q : Entry → Bool) → (not (empty s) && (b || any q f)) ≡ (not (empty s) && (b || any q s))
  seat-found b q = by_test (empty s) (λ t. rw t refl) (λ t. let only = alone f s p few-found is t in ap (λ l. not (empty s) && (b || any q l)) only.0)

-- ---- a line's effect, where X stands at l before it and at l' after it

module _ (X : Bytes) (g g' : Stage) (l l' : Lookup) (before_it : Stands X g l) (after-it : Stands X g' l') where
  seats-is : seats_by l l' ≡ (empty (seat_in X g) && not (empty (seat_in X g')))
  seats-is = ap₂ (λ a b. not a && b) before_it.seated after-it.seated ∙ ap (λ a. a && not (empty (seat_in X g'))) (not_not (empty (seat_in X g)))

  joins-is : joins_by l l' ≡ (empty (held_in X g) && not (empty (place_in X g')))
  joins-is =
      ap₂ (λ a b. a && b) (not_not (empty (found l)) ∙ ap empty before_it.held)
      (ap (λ b. not (empty (found l')) && not b) after-it.seated ∙ waits (seat_in X g') (place_in X g') (found l') (few l'.position l'.entry) after-it.held)

  removes-is : removes_by l l' ≡ (not (empty (held_in X g)) && empty (held_in X g'))
  removes-is = ap₂ (λ a b. not (empty a) && b) before_it.held (not_not (empty (found l')) ∙ ap empty after-it.held)

-- ---- what the line asked for

record As (X : Bytes) (g : Stage) (ask : Asked) (a : Acted) : Type 0 where
  named : a.named ≡ named_in X ask
  moves : a.moves ≡ moves X g ask
  pings : a.pings ≡ (is_ping_to X ask && eqb (number_at g ask) 0)
  overdue : a.overdue ≡ overdue_at X g ask
  number : a.number ≡ number_at g ask

module _ (X : Bytes) (l : Lookup) where
  as_own : (g : Stage) (buckets : ℕ) (key : Bytes) → As X g (own buckets key) (idle (number_at g (own buckets key)))
  as_own (before owned) buckets key = record { named = refl; moves = refl; pings = refl; overdue = refl; number = refl }
  as_own (running e t) buckets key = record { named = refl; moves = refl; pings = refl; overdue = refl; number = refl }

  as-unreadable : (g : Stage) → As X g unreadable (idle (number_at g unreadable))
  as-unreadable (before owned) = record { named = refl; moves = refl; pings = refl; overdue = refl; number = refl }
  as-unreadable (running e t) = record { named = refl; moves = refl; pings = refl; overdue = refl; number = refl }

  as-datagram : (st : State) (g : Stage) → Kept st g → Stands X g l → (now unix : ℕ) (address : Bytes) (udp : ℕ) (key bytes : Bytes)
      → let ask = call (datagram now unix address udp key bytes) in As X g ask (acts_of X l (number_at g ask) ask)
  unfolding acts_of acts_by number_at
  as-datagram st g (none owned) h now unix address udp key bytes =
      by_test (same_bytes X key)
      (λ same. rw same (record { named = sym same; moves = refl; pings = refl; overdue = refl; number = refl }))
      (λ same. rw same (record { named = sym same; moves = refl; pings = refl; overdue = refl; number = refl }))
  as-datagram st g (some owner count one most t sound values) h now unix address udp key bytes =
      let e : Env = rules_for count owner in
      let c : Call = datagram now unix address udp key bytes in
      let seat : List Entry = entry_of e X t in
      by_test (same_bytes X key)
      (λ same. rw same (record {
        named = sym same;
        moves =
            rw same (ap (λ b. eqb (answer e t c) 0 && b)
            (ap (λ b. b && (is_pong (reading bytes unix) || any (is_verified now address udp) (found l))) h.seated
            ∙ seat-found seat (replacement_of e X t) (found l) (few l.position l.entry) h.held (is_pong (reading bytes unix)) (is_verified now address udp)));
        pings = refl;
        overdue = refl;
        number = refl;
      }))
      (λ same. rw same (record { named = sym same; moves = rw same refl; pings = refl; overdue = refl; number = refl }))

  as_ping_sent : (g : Stage) (now : ℕ) (key address : Bytes) (udp tcp : ℕ) (hash : Bytes)
      → let ask = call (ping_sent now key address udp tcp hash) in As X g ask (acts_of X l (number_at g ask) ask)
  unfolding acts_of acts_by
  as_ping_sent g now key address udp tcp hash =
      by_test (same_bytes X key)
      (λ same. rw same (record { named = sym same; moves = moves-none g; pings = rw same refl; overdue = refl; number = refl }))
      (λ same. rw same (record { named = sym same; moves = moves-none g; pings = rw same refl; overdue = refl; number = refl }))
    where
      moves-none : (g : Stage) → false ≡ moves X g (call (ping_sent now key address udp tcp hash))
      moves-none (before owned) = refl
      moves-none (running e t) = refl

  as-sweep : (g : Stage) → Stands X g l → (now : ℕ) → let ask = call (sweep now) in As X g ask (acts_of X l (number_at g ask) ask)
  unfolding acts_of acts_by
  as-sweep g h now = record { named = refl; moves = moves-none g; pings = refl; overdue = ap (any (λ p. is_overdue now p.ping)) h.held; number = refl }
    where
      moves-none : (g : Stage) → false ≡ moves X g (call (sweep now))
      moves-none (before owned) = refl
      moves-none (running e t) = refl

  as-closest : (g : Stage) (target : Bytes) (room : ℕ) → let ask = call (closest target room) in As X g ask (acts_of X l (number_at g ask) ask)
  unfolding acts_of acts_by
  as-closest (before owned) target room = record { named = refl; moves = refl; pings = refl; overdue = refl; number = refl }
  as-closest (running e t) target room = record { named = refl; moves = refl; pings = refl; overdue = refl; number = refl }

  as-unclocked : (g : Stage) (c : Call) → let ask = call (unclocked c) in As X g ask (acts_of X l (number_at g ask) ask)
  unfolding acts_of acts_by
  as-unclocked (before owned) c = record { named = refl; moves = refl; pings = refl; overdue = refl; number = refl }
  as-unclocked (running e t) c = record { named = refl; moves = refl; pings = refl; overdue = refl; number = refl }

  acts-as : (st : State) (g : Stage) → Kept st g → Stands X g l → (ask : Asked) → As X g ask (acts_of X l (number_at g ask) ask)
  unfolding acts_of
  acts-as st g k h (own buckets key) = as_own g buckets key
  acts-as st g k h (call (datagram now unix address udp key bytes)) = as-datagram st g k h now unix address udp key bytes
  acts-as st g k h (call (ping_sent now key address udp tcp hash)) = as_ping_sent g now key address udp tcp hash
  acts-as st g k h (call (sweep now)) = as-sweep g h now
  acts-as st g k h (call (closest target room)) = as-closest g target room
  acts-as st g k h (call (unclocked c)) = as-unclocked g c
  acts-as st g k h unreadable = as-unreadable g

-- ---- the trail with one line more

pub trail_step : (X : Bytes) (st : State) (g : Stage) → Kept st g → (ask : Asked) (l l' : Lookup) → Stands X g l → Stands X (stage_after g ask) l' → (t : Trail)
    → trail_by t (acts_of X l (number_at g ask) ask) l l' ≡ trail_after X t (record { given = g; asks = ask })
unfolding trail_by standing_by trail_after
trail_step X st g k ask l l' h h' t =
    let g' : Stage = stage_after g ask in
    let a = acts-as X l st g k h ask in
    rw (seats-is X g g' l l' h h', joins-is X g g' l l' h h', removes-is X g g' l l' h h', a.named, a.moves, a.pings, a.overdue, a.number) refl

-- ---- a line after which X needn't be looked for

module _ (X : Bytes) (l : Lookup) where
  -- as the bucket was
  as-bucket : (e : Env) (t t' : Table) → SameAs X (bucket_of e t X) (bucket_of e t' X) → Stands X (running e t) l → Stands X (running e t') l
  as-bucket e t t' same h =
      record { seated = h.seated ∙ ap (λ s. not (empty s)) (sym same.entries); held = h.held ∙ ap₂ (λ s p. s ++ p) (sym same.entries) (sym same.replacements) }

  -- in a fresh table
  in-fresh : (e : Env) (owned : Bool) → Stands X (before owned) l → Stands X (running e (fresh e)) l
  in-fresh e owned h =
      let bare : bucket_of e (fresh e) X ≡ no_contents = fresh-bucket e (slot e X) in
      record { seated = rw bare h.seated; held = rw bare h.held }

  after-own : (st : State) (g : Stage) → Kept st g → Stands X g l → (buckets : ℕ) (key : Bytes) → Stands X (stage_after g (own buckets key)) l
  unfolding stage_after
  after-own st g (none true) h buckets key = record { seated = h.seated; held = h.held }
  after-own st g (none false) h buckets key =
      by_test (eqb (own_number buckets key) 0)
      (λ z. rw z (in-fresh (rules_for buckets key) false h))
      (λ z. rw z (record { seated = h.seated; held = h.held }))
  after-own st g (some owner count one most t sound values) h buckets key = h

  after_call : (st : State) (g : Stage) → Kept st g → Stands X g l → (n : ℕ) (c : Call) → (acts_by X l n c).looks ≡ false → Stands X (stage_after g (call c)) l
  unfolding stage_after acts_by
  after_call st g (none owned) h n c quiet = h
  after_call st g (some owner count one most t sound values) h n (datagram now unix address udp key bytes) quiet =
      let e : Env = rules_for count owner in
      by_test (same_bytes X key)
      (λ same. never (rw same at quiet))
      (λ same. as-bucket e t (next e t (datagram now unix address udp key bytes)) (other-datagram e t sound.sized X key same now unix address udp bytes) h)
  after_call st g (some owner count one most t sound values) h n (ping_sent now key address udp tcp hash) quiet =
      let e : Env = rules_for count owner in
      by_test (same_bytes X key)
      (λ same. never (rw same at quiet))
      (λ same. as-bucket e t (next e t (ping_sent now key address udp tcp hash)) (other_ping_sent e t sound.sized X key same now address udp tcp hash) h)
  after_call st g (some owner count one most t sound values) h n (sweep now) quiet = never quiet
  after_call st g (some owner count one most t sound values) h n (closest target room) quiet =
      let e : Env = rules_for count owner in
      by_test (eqb (answer e t (closest target room)) 0) (λ z. rw z h) (λ z. rw z h)
  after_call st g (some owner count one most t sound values) h n (unclocked c) quiet = h

  pub unlooked : (st : State) (g : Stage) → Kept st g → Stands X g l → (n : ℕ) (ask : Asked) → (acts_of X l n ask).looks ≡ false → Stands X (stage_after g ask) l
  unfolding acts_of stage_after
  unlooked st g k h n (own buckets key) quiet = after-own st g k h buckets key
  unlooked st g k h n (call c) quiet = after_call st g k h n c quiet
  unlooked st g k h n unreadable quiet = stays g h
    where
      stays : (g : Stage) → Stands X g l → Stands X (stage_after g unreadable) l
      stays (before owned) h = h
      stays (running e t) h = h
