-- Demand 3 holds of every list of calls, for every own hash and every number of buckets.
use mathlib.Core.List.{List, [], ◌∷◌}
use mathlib.Core.Logic.{⊎_elim, inl, inr}
use native.Mathlib.Omega.{arith}
use Rattle.octets.specs.Octets.{Bytes}
use Rattle.bucket_model.proofs.Ranges.{ranges_bounded}
use Rattle.call_history.specs.Model.{Env, Lawful, Call, next, slot, bucket_at, bucket_of, Run, start, advance, run_from, run}
use Rattle.call_history.specs.Words.{ProvedReplacement}
use Rattle.call_history.specs.Demand3.{StayLasts, InOrder, EntriesInOrder, TakesEntry, InTurn, Demand3}
use Rattle.call_history.proofs.Step.{fresh-bucket}
use Rattle.call_history.proofs.Sound.{TableSound, own-buckets, fresh_sound, next-sound}
use Rattle.call_history.proofs.Log.{KnownIn, advance-known}
use Rattle.call_history.proofs.Entry as Entry
use Rattle.call_history.proofs.Isolated as Isolated
use Rattle.call_history.proofs.Endpoint as Endpoint
use Rattle.call_history.proofs.Order.{advance-order}
use Rattle.call_history.proofs.Tail.{advance-entries}
use Rattle.call_history.proofs.Stay as Stay
use Rattle.call_history.proofs.Replacement as Replacement
use Rattle.call_history.proofs.Seating as Seating

module _ (e : Env) (law : Lawful e) where
  -- what every call keeps
  record Kept (r : Run e) : Type 0 where
    ok : TableSound e r.table
    known : (X : Bytes) → KnownIn e X r.log (bucket_of e r.table X)
    in_order : InOrder e r
    entries-in-order : EntriesInOrder e r
    lasts : StayLasts e r

  kept-start : Kept (start e)
  kept-start =
      record {
        ok = fresh_sound e law;
        known = λ X. rw (fresh-bucket e (slot e X)) (tt, tt);
        in_order = λ i. rw (fresh-bucket e i) tt;
        entries-in-order = λ i. rw (fresh-bucket e i) tt;
        lasts = λ X. rw (fresh-bucket e (slot e X)) (λ in_line. absurd (omega arith));
      }

  kept-advance : (r : Run e) (c : Call) → Kept r → Kept (advance e r c)
  kept-advance r c k =
      record {
        ok = next-sound e r.table k.ok c;
        known = advance-known e r k.ok k.known c;
        in_order = advance-order e r k.ok k.in_order c;
        entries-in-order = advance-entries e r k.ok k.in_order k.entries-in-order c;
        lasts = Stay.stay_lasts e r k.ok k.lasts c;
      }

  kept_from : (r : Run e) (cs : List Call) → Kept r → Kept (run_from e r cs)
  kept_from r [] k = k
  kept_from r (c ∷ cs) k = kept_from (advance e r c) cs (kept-advance r c k)

  kept : (cs : List Call) → Kept (run e cs)
  kept cs = kept_from (start e) cs kept-start

  takes-entry : (r : Run e) (k : Kept r) (c : Call) → TakesEntry e r c
  takes-entry r k c = Replacement.takes-entry e r k.ok k.known c (Stay.proved_by_pong e r k.ok k.known) k.in_order

  in_turn : (r : Run e) → Kept r → (X : Bytes) → ProvedReplacement e X r → (later : List Call) → InTurn e X r later
  in_turn r k X w [] = tt
  in_turn r k X w (c ∷ later) =
      let takes = takes-entry r k c X w in
      let k' = kept-advance r c k in
      ⊎_elim
      (λ has. inl (takes.0 has, has))
      (⊎_elim
      (λ drop.
      let no_room = Replacement.dropped-no-room e r k.ok k.known c X drop in
      inr (no_room, (λ has. no_room (takes.0 has)), inl drop))
      (λ still.
      let no-entry = Replacement.waits_no_entry e X (next e r.table c) still in
      let w' = Replacement.waits-proved e (advance e r c) k'.ok k'.known X still in
      inr ((λ room. no-entry (takes.1 room)), no-entry, inr (w', in_turn (advance e r c) k' X w' later))))
      (Replacement.stays e r k.ok k.known c X w)

  pub demand3 : (calls : List Call) → Demand3 e calls
  demand3 calls =
      record {
        loses-entry = λ earlier later c _. Entry.loses-entry e (run e earlier) (kept earlier).ok (kept earlier).known c;
        isolated = λ earlier later rest _. Isolated.isolated e (run e earlier) (kept earlier).ok later;
        keeps_endpoint = λ earlier later c _. Endpoint.keeps_endpoint e (run e earlier) (kept earlier).ok c;
        bounded = λ earlier later _ i.
            let b = (kept earlier).ok.each i in
            let own = own-buckets e (run e earlier).table (kept earlier).ok i in
            (b.entries_bound, b.replacements_bound, b.once, own.0, own.1);
        ranges_bounded = λ earlier later _ i a. ranges_bounded (bucket_at e (run e earlier).table i).entries ((kept earlier).ok.each i).ranges a;
        leaves-replacements = λ earlier later c _. Replacement.leaves-replacements e (run e earlier) (kept earlier).ok (kept earlier).known c;
        takes-entry = λ earlier later c _. takes-entry (run e earlier) (kept earlier) c;
        comes-to-entry = λ earlier later c _.
            Seating.comes-to-entry e (run e earlier) (kept earlier).ok (kept earlier).known c (takes-entry (run e earlier) (kept earlier) c);
        in_turn = λ earlier later _ X w. in_turn (run e earlier) (kept earlier) X w later;
        stay_begins = λ earlier later c _. Stay.stay_begins e (run e earlier) (kept earlier).ok c;
        stay_lasts = λ earlier later _. (kept earlier).lasts;
        proved_by_pong = λ earlier later _. Stay.proved_by_pong e (run e earlier) (kept earlier).ok (kept earlier).known;
        in_order = λ earlier later _. (kept earlier).in_order;
        entries-in-order = λ earlier later _. (kept earlier).entries-in-order;
      }
