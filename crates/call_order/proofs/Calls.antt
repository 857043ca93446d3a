-- Two calls of different buckets at one millisecond, by the rules: neither sees the other.
use Prim.Native.Nat.{ℕ, zero, suc, ◌≤◌}
use mathlib.Core.Path.{◌≡◌, refl, ap, sym, ◌∙◌}
use mathlib.Core.Bool.{true}
use mathlib.Core.List.{List, [], ◌∷◌}
use native.Mathlib.Omega.{arith}
use borrow.Author.Tests.{le-ltb}
use lib.Dec.{eqb, ltb}
use Rattle.octets.specs.Octets.{Bytes}
use Rattle.lists.specs.Lists.{modify}
use Rattle.lists.proofs.Laws.{by_test, never}
use Rattle.bucket_model.specs.Contents.{Contents}
use Rattle.bucket_model.specs.Rules.{on_ping_sent}
use Rattle.call_history.specs.Model.{Env, Call, datagram, ping_sent, sweep, closest, unclocked, Table, is_kept, slot, bucket_of, datagram_refusals, ping_sent_refusals, on_datagram, answer, effect, next}
use Rattle.call_history.proofs.Sound.{TableSound}
use Rattle.call_history.proofs.Step.{by_answer, datagram-keyed, ping-allowed, other-bucket}
use Rattle.call_order.specs.Order.{Apart, InStretch, EitherWay}
use Rattle.call_order.proofs.Lists.{slot_of, other-slot}

pub modify_comm : {A : Type 0} (i j : ℕ) → (i ≡ j → ⊥) → (f g : A → A) (l : List A) → modify i f (modify j g l) ≡ modify j g (modify i f l)
modify_comm i j apart f g [] = refl
modify_comm zero zero apart f g (a ∷ l) = absurd (apart refl)
modify_comm zero (suc j) apart f g (a ∷ l) = refl
modify_comm (suc i) zero apart f g (a ∷ l) = refl
modify_comm (suc i) (suc j) apart f g (a ∷ l) = ap (λ m. a ∷ m) (modify_comm i j (λ h. apart (ap suc h)) f g l)

module _ (e : Env) where
  -- what a call does to its bucket
  abbrev change : Call → Contents → Contents
  change (datagram now unix address udp key bytes) = on_datagram now address udp key (e.read bytes unix)
  change (ping_sent now key address udp tcp hash) = on_ping_sent now key address udp tcp hash
  change (sweep now) = λ b. b
  change (closest target room) = λ b. b
  change (unclocked c) = λ b. b

  pub effect_is : (s : Table) (t : ℕ) (c : Call) → InStretch e t c → effect e s c ≡ record { clock = t; buckets = modify (slot_of e c) (change c) s.buckets }
  effect_is s t (datagram now unix address udp key bytes) in_c =
      ap (λ n. record { clock = n; buckets = modify (slot e key) (on_datagram now address udp key (e.read bytes unix)) s.buckets }) in_c.0
  effect_is s t (ping_sent now key address udp tcp hash) in_c =
      ap (λ n. record { clock = n; buckets = modify (slot e key) (on_ping_sent now key address udp tcp hash) s.buckets }) in_c.0
  effect_is s t (sweep now) in_c = never (sym in_c.1)
  effect_is s t (closest target room) in_c = never (sym in_c.1)
  effect_is s t (unclocked c) in_c = never (sym in_c.1)

  -- what a call at t with this key reads of a table
  pub record Unseen (s s' : Table) (t : ℕ) (key : Bytes) : Type 0 where
    pub early : ltb t s'.clock ≡ ltb t s.clock
    pub bucket : bucket_of e s' key ≡ bucket_of e s key

  module _ (s : Table) (ok : TableSound e s) (t : ℕ) where
    unseen-key : (now : ℕ) (key d : Bytes) → now ≡ t → (slot e key ≡ slot e d → ⊥) → s.clock ≤ now → (f : Contents → Contents) → is_kept e d ≡ true
        → Unseen s (record { clock = now; buckets = modify (slot e d) f s.buckets }) t key
    unseen-key now key d at apart in_time f is_kept =
        record {
          early = le-ltb t now (omega arith) ∙ sym (le-ltb t s.clock (omega arith));
          bucket = other-bucket e s ok.sized now d f is_kept (slot e key) apart;
        }

    -- a call of another bucket at t leaves all that the call reads
    pub unseen : (key : Bytes) (d : Call) → InStretch e t d → (slot e key ≡ slot_of e d → ⊥) → Unseen s (next e s d) t key
    unseen key (datagram now unix address udp k bytes) in-d apart =
        by_answer e (λ s'. Unseen s s' t key) s (datagram now unix address udp k bytes)
        (λ a. let keyed = datagram-keyed e s now unix address udp k bytes a in
        unseen-key now key k in-d.0 apart keyed.in_time (on_datagram now address udp k (e.read bytes unix)) keyed.is_kept)
        (λ _. record { early = refl; bucket = refl })
    unseen key (ping_sent now k address udp tcp hash) in-d apart =
        by_answer e (λ s'. Unseen s s' t key) s (ping_sent now k address udp tcp hash)
        (λ a. let keyed = (ping-allowed e s now k address udp tcp hash a).keyed in
        unseen-key now key k in-d.0 apart keyed.in_time (on_ping_sent now k address udp tcp hash) keyed.is_kept)
        (λ _. record { early = refl; bucket = refl })
    unseen key (sweep now) in-d apart = never (sym in-d.1)
    unseen key (closest target room) in-d apart = never (sym in-d.1)
    unseen key (unclocked c) in-d apart = never (sym in-d.1)

    -- so its answer number is the same
    same_number : (c d : Call) → InStretch e t c → InStretch e t d → (slot_of e c ≡ slot_of e d → ⊥) → answer e (next e s d) c ≡ answer e s c
    unfolding datagram_refusals ping_sent_refusals
    same_number (datagram now unix address udp key bytes) d in_c in-d apart =
        let u = unseen key d in-d apart in
        let early : ltb now (next e s d).clock ≡ ltb now s.clock = rw in_c.0 u.early in
        rw (early, u.bucket) refl
    same_number (ping_sent now key address udp tcp hash) d in_c in-d apart =
        let u = unseen key d in-d apart in
        let early : ltb now (next e s d).clock ≡ ltb now s.clock = rw in_c.0 u.early in
        rw (early, u.bucket) refl
    same_number (sweep now) d in_c in-d apart = never (sym in_c.1)
    same_number (closest target room) d in_c in-d apart = never (sym in_c.1)
    same_number (unclocked c) d in_c in-d apart = never (sym in_c.1)

    accepted-next : (s : Table) (c : Call) → eqb (answer e s c) 0 ≡ true → next e s c ≡ effect e s c
    accepted-next s c h = rw h refl

    -- both accepted, one after the other
    after_both : (c d : Call) → InStretch e t c → InStretch e t d → answer e (next e s c) d ≡ answer e s d
        → eqb (answer e s c) 0 ≡ true → eqb (answer e s d) 0 ≡ true
        → next e (next e s c) d ≡ record { clock = t; buckets = modify (slot_of e d) (change d) (modify (slot_of e c) (change c) s.buckets) }
    after_both c d in_c in-d second f g =
        accepted-next (next e s c) d (ap (λ n. eqb n 0) second ∙ g)
        ∙ ap (λ s'. effect e s' d) (accepted-next s c f ∙ effect_is s t c in_c)
        ∙ effect_is (record { clock = t; buckets = modify (slot_of e c) (change c) s.buckets }) t d in-d

    -- and the table is the same after both
    pub two-calls : (c d : Call) → InStretch e t c → InStretch e t d → Apart e c d → EitherWay (answer e) (next e) s c d
    two-calls c d in_c in-d other =
        let apart = other-slot e c d in_c.1 in-d.1 other in
        let first = same_number c d in_c in-d apart in
        let second = same_number d c in-d in_c (λ h. apart (sym h)) in
        record {
          state =
              by_test (eqb (answer e s c) 0)
              (λ f. by_test (eqb (answer e s d) 0)
              (λ g. after_both c d in_c in-d second f g
              ∙ ap (λ l. record { clock = t; buckets = l }) (sym (modify_comm (slot_of e c) (slot_of e d) apart (change c) (change d) s.buckets))
              ∙ sym (after_both d c in-d in_c first g f))
              (λ g. rw (first, second) (rw (f, g) refl)))
              (λ f. by_test (eqb (answer e s d) 0)
              (λ g. rw (first, second) (rw (f, g) refl))
              (λ g. rw (first, second) (rw (f, g) refl)));
          first = first;
          second = second;
        }
