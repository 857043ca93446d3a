-- Refusals of the public calls. Assumes nothing.
use Prim.Native.Nat.{ℕ}
use mathlib.Core.Path.{◌≡◌, refl, sym, ap, ◌∙◌}
use mathlib.Core.Bool.{true}
use mathlib.Core.List.{List, [], ◌∷◌}
use lib.Dec.{eqb}
use lib.ListN.{drop}
use Rattle.octets.specs.Octets.{Bytes}
use Rattle.lists.specs.Lists.{any}
use Rattle.lists.proofs.Laws.{by_test, never}
use Rattle.std.specs.Prelude.{Option, Some, None}
use Rattle.node.specs.declared.MonotonicMillis.{MonotonicMillis}
use Rattle.clock32.specs.Widened.{widened}
use Rattle.table_model.specs.Layout.{clock_of}
use Rattle.table.proofs.Fresh.{init_kept}
use Rattle.written.proofs.Answers.{written_kept}
use Rattle.call_history.specs.Model.{Call, datagram, ping_sent, sweep, closest, unclocked}
use Rattle.call_history.specs.Demand3.{clock_reading}
use Rattle.call_model.specs.AnyBytes.{numbers_of}
use Rattle.call_model.specs.Reading.{reading}
use Rattle.call_model.proofs.AnyBytes.{on-any-bytes}
use Rattle.closest_nodes.proofs.Chosen.{closest_kept}
use Rattle.printout_table.proofs.Tells.{told_kept}
use Rattle.call_key.proofs.Kept.{key_kept}
use Rattle.call_low.specs.Got.{has_clock, clocked, got, answer_low}
use Rattle.call_low.proofs.Front.{got-untimed, got-by}
use Rattle.call_burst.proofs.Run.{burst_kept, low_burst_kept}
use Rattle.discv4.specs.Library.{low_number}
use Rattle.discv4.specs.Refusals.{RefusalsKeep}
use Rattle.discv4.proofs.Demand3.{number_same, bytes_same, low_number_is}

-- the numbers of a refused reading are among those of its call
one_or_two : (n : ℕ) (ns : List ℕ) → any (eqb n) (1 ∷ 2 ∷ []) ≡ true → any (eqb n) (0 ∷ 1 ∷ 2 ∷ ns) ≡ true
one_or_two n ns =
    by_test (eqb n 0) (λ z. rw z (λ h. refl))
    (λ z. by_test (eqb n 1) (λ o. rw (z, o) (λ h. refl))
    (λ o. by_test (eqb n 2) (λ t. rw (z, o, t) (λ h. refl)) (λ t. rw (z, o, t) (λ h. never (sym h)))))

clocked-listed : (w : Option MonotonicMillis) (c : Call) (n : ℕ) → has_clock c ≡ true → any (eqb n) (numbers_of (clocked w c)) ≡ true → any (eqb n) (numbers_of c) ≡ true
clocked-listed (Some t) (datagram r unix address udp key bytes) n timed h = h
clocked-listed (Some t) (ping_sent r key address udp tcp hash) n timed h = h
clocked-listed (Some t) (sweep r) n timed h = h
clocked-listed (Some t) (closest target room) n timed h = h
clocked-listed (Some t) (unclocked c) n timed h = h
clocked-listed None (datagram r unix address udp key bytes) n timed h = one_or_two n (drop 3 (numbers_of (datagram r unix address udp key bytes))) h
clocked-listed None (ping_sent r key address udp tcp hash) n timed h = one_or_two n (drop 3 (numbers_of (ping_sent r key address udp tcp hash))) h
clocked-listed None (sweep r) n timed h = one_or_two n [] h
clocked-listed None (closest target room) n timed h = never (sym timed)
clocked-listed None (unclocked c) n timed h = never (sym timed)

low_listed : (s : Bytes) (c : Call) → any (eqb (low_number s c)) (numbers_of c) ≡ true
low_listed s c =
    let n : ℕ = answer_low s c in
    let w : Option MonotonicMillis = widened (clock_of s) (clock_reading 0 c) in
    let listed : any (eqb n) (numbers_of (got (clock_of s) c)) ≡ true = (on-any-bytes reading).number_listed s (got (clock_of s) c) in
    rw (low_number_is s c)
    (by_test (has_clock c)
    (λ h. clocked-listed w c n h (ap (λ (d : Call). any (eqb n) (numbers_of d)) (sym (got-by s c (clock_of s) w h refl)) ∙ listed))
    (λ h. ap (λ (d : Call). any (eqb n) (numbers_of d)) (sym (got-untimed s c (clock_of s) h)) ∙ listed))

pub refusals_keep : RefusalsKeep
refusals_keep =
    record {
      number_listed = λ s c. ap (λ (n : ℕ). any (eqb n) (numbers_of c)) (number_same s c) ∙ (on-any-bytes reading).number_listed s c;
      refused_unchanged = λ s c h. bytes_same s c ∙ (on-any-bytes reading).refused_unchanged s c (λ z. h (number_same s c ∙ z));
      low_listed = low_listed;
      low_unchanged = λ s c h. (on-any-bytes reading).refused_unchanged s (got (clock_of s) c) (λ z. h (low_number_is s c ∙ z));
      closest_list = closest_kept;
      burst = burst_kept;
      low_burst = low_burst_kept;
      init = init_kept;
      writers = written_kept;
      tells = told_kept;
      of_keys = key_kept;
    }
