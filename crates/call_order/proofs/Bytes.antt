-- The same on the byte form of a sound table: whole answers, and the bytes.
use Prim.Native.Nat.{ℕ, ◌≤◌}
use mathlib.Core.Path.{◌≡◌, refl, ap, sym, subst, ◌∙◌}
use Rattle.octets.specs.Octets.{Bytes}
use Rattle.table_model.specs.Layout.{clock_of}
use Rattle.table_model.proofs.Sound.{clock-back}
use Rattle.call_history.specs.Model.{Env, Call, datagram, ping_sent, sweep, closest, unclocked, Table, bucket_of, answer, next}
use Rattle.call_history.specs.Keccak.{with_keccak}
use Rattle.call_history.specs.Chain.{IsCall}
use Rattle.call_history.proofs.Sound.{TableSound, IsTable, next-sound, next-values}
use Rattle.call_history.proofs.Step.{by_answer}
use Rattle.call_model.specs.Calls.{bucket_for, answer_on, bytes_after}
use Rattle.call_model.specs.Reading.{reading}
use Rattle.call_model.specs.OverBytes.{encode}
use Rattle.call_model.proofs.Form.{table-form, reads}
use Rattle.call_model.proofs.Step.{step_follows}
use Rattle.call_datagram.specs.Received.{received}
use Rattle.call_order.specs.Order.{Apart, InStretch}
use Rattle.call_order.proofs.Lists.{other-slot}
use Rattle.call_order.proofs.Calls.{effect_is, unseen, two-calls}

-- the whole answer to a datagram or a ping-sent is the same on both
abbrev pub SameAnswer : Bytes → Bytes → Call → Type 0
SameAnswer s s' (datagram now unix address udp key bytes) = received s' now unix address udp key bytes ≡ received s now unix address udp key bytes
SameAnswer s s' (ping_sent now key address udp tcp hash) =
    answer_on reading s' (ping_sent now key address udp tcp hash) ≡ answer_on reading s (ping_sent now key address udp tcp hash)
SameAnswer s s' (sweep now) = Unit {0}
SameAnswer s s' (closest target room) = Unit {0}
SameAnswer s s' (unclocked c) = Unit {0}

module _ (own : Bytes) (count : ℕ) (one : 1 ≤ count) (most : count ≤ 256) where
  abbrev e : Env
  e = with_keccak reading own count

  -- the bytes are the one form of a sound table
  pub record IsForm (s : Bytes) : Type 0 where
    pub table : Table
    pub sound : TableSound e table
    pub values : IsTable e table
    pub is : s ≡ encode own table

  -- ---- of the table's form

  module _ (t : Table) (ok : TableSound e t) (values : IsTable e t) where
    number_is : (c : Call) → IsCall c → answer_on reading (encode own t) c ≡ answer e t c
    number_is c is = (step_follows reading own count one most t c ok values is).0

    left_is : (c : Call) → IsCall c → bytes_after reading (encode own t) c ≡ encode own (next e t c)
    left_is c is = (step_follows reading own count one most t c ok values is).1

    clock-is : clock_of (encode own t) ≡ t.clock
    clock-is = clock-back own t.clock t.buckets (table-form reading own count one most t ok values)

    bucket-is : (key : Bytes) → bucket_for reading (encode own t) key ≡ bucket_of e t key
    bucket-is key =
        rw ok.sized at (reads reading own t (table-form reading own count one most t ok values) key (λ x clock b. b))

  module _ (t : Table) (ok : TableSound e t) (values : IsTable e t) (c d : Call) (is_c : IsCall c) (is-d : IsCall d) where
    left_both : bytes_after reading (bytes_after reading (encode own t) c) d ≡ encode own (next e (next e t c) d)
    left_both =
        ap (λ s. bytes_after reading s d) (left_is t ok values c is_c)
        ∙ left_is (next e t c) (next-sound e t ok c) (next-values e t ok values c is_c) d is-d

    -- what c reads, before and after d
    number-after : answer e (next e t d) c ≡ answer e t c → answer_on reading (bytes_after reading (encode own t) d) c ≡ answer_on reading (encode own t) c
    number-after h =
        ap (λ s. answer_on reading s c) (left_is t ok values d is-d)
        ∙ number_is (next e t d) (next-sound e t ok d) (next-values e t ok values d is-d) c is_c
        ∙ h ∙ sym (number_is t ok values c is_c)

    bucket-after : (key : Bytes) → bucket_of e (next e t d) key ≡ bucket_of e t key
        → bucket_for reading (bytes_after reading (encode own t) d) key ≡ bucket_for reading (encode own t) key
    bucket-after key h =
        ap (λ s. bucket_for reading s key) (left_is t ok values d is-d)
        ∙ bucket-is (next e t d) (next-sound e t ok d) (next-values e t ok values d is-d) key
        ∙ h ∙ sym (bucket-is t ok values key)

  -- ---- of bytes that are one

  pub form-left : (s : Bytes) (c : Call) → IsCall c → IsForm s → IsForm (bytes_after reading s c)
  form-left s c is f =
      record {
        table = next e f.table c;
        sound = next-sound e f.table f.sound c;
        values = next-values e f.table f.sound f.values c is;
        is = ap (λ x. bytes_after reading x c) f.is ∙ left_is f.table f.sound f.values c is;
      }

  module _ (s : Bytes) (f : IsForm s) (t : ℕ) where
    -- the bytes after both calls
    pub bytes-either : (c d : Call) → IsCall c → IsCall d → InStretch e t c → InStretch e t d → Apart e c d
        → bytes_after reading (bytes_after reading s c) d ≡ bytes_after reading (bytes_after reading s d) c
    bytes-either c d is_c is-d in_c in-d apart =
        rw f.is
        (left_both f.table f.sound f.values c d is_c is-d
        ∙ ap (encode own) (two-calls e f.table f.sound t c d in_c in-d apart).state
        ∙ sym (left_both f.table f.sound f.values d c is-d is_c))

    -- the clock after a call at t is the one before, or t
    pub clock-after : (P : ℕ → Type 0) (c : Call) → IsCall c → InStretch e t c → P (clock_of s) → P t → P (clock_of (bytes_after reading s c))
    unfolding form-left
    clock-after P c is in_c before at-t =
        let x = f.table in
        let g = form-left s c is f in
        let before' : P x.clock = subst P (ap clock_of f.is ∙ clock-is x f.sound f.values) before in
        subst P (sym (ap clock_of g.is ∙ clock-is g.table g.sound g.values))
        (by_answer e (λ y. P y.clock) x c (λ _. subst P (sym (ap (λ y. y.clock) (effect_is e x t c in_c))) at-t) (λ _. before'))

    -- the answer to the one is the same after the other
    pub answer-either : (c d : Call) → IsCall c → IsCall d → InStretch e t c → InStretch e t d → Apart e c d → SameAnswer s (bytes_after reading s d) c
    unfolding received
    answer-either (datagram now unix address udp key bytes) d is_c is-d in_c in-d apart =
        let c : Call = datagram now unix address udp key bytes in
        let u = unseen e f.table f.sound t key d in-d (other-slot e c d in_c.1 in-d.1 apart) in
        rw f.is
        (rw (
          number-after f.table f.sound f.values c d is_c is-d (two-calls e f.table f.sound t c d in_c in-d apart).first,
          bucket-after f.table f.sound f.values c d is_c is-d key u.bucket,
        ) refl)
    answer-either (ping_sent now key address udp tcp hash) d is_c is-d in_c in-d apart =
        let c : Call = ping_sent now key address udp tcp hash in
        rw f.is (number-after f.table f.sound f.values c d is_c is-d (two-calls e f.table f.sound t c d in_c in-d apart).first)
    answer-either (sweep now) d is_c is-d in_c in-d apart = tt
    answer-either (closest target room) d is_c is-d in_c in-d apart = tt
    answer-either (unclocked c) d is_c is-d in_c in-d apart = tt
