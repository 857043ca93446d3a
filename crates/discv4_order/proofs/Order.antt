-- Left and right in any order, of the public calls. Assumes nothing.
use Prim.Native.Nat.{ℕ, ◌≤◌}
use mathlib.Core.Path.{◌≡◌, refl, sym, subst, ◌∙◌}
use Rattle.octets.specs.Octets.{Bytes}
use Rattle.keccak.specs.Sponge.{keccak256}
use Rattle.keccak.proofs.Laws.{keccak256-length, keccak256_bytes}
use Rattle.table.specs.Init.{init_table, fresh_table}
use Rattle.table.proofs.Fresh.{from-1, to-256, is-fresh}
use Rattle.call_history.specs.Model.{Env, fresh}
use Rattle.call_history.specs.Keccak.{with_keccak}
use Rattle.call_history.specs.Chain.{IsCall}
use Rattle.call_history.proofs.Step.{keccak_lawful}
use Rattle.call_history.proofs.Sound.{fresh_sound, fresh-values}
use Rattle.call_model.specs.Reading.{reading}
use Rattle.call_order.specs.Order.{after}
use Rattle.call_order.proofs.Lists.{kept-after, merges-alike}
use Rattle.call_order.proofs.Bytes.{IsForm}
use Rattle.discv4.specs.Library.{all_made, table_left_all}
use Rattle.discv4.proofs.Demand3.{all_told_is, all_are}
use Rattle.discv4_order.specs.Order.{State, told, left, IsLow, told_low, left_low, OrderKeeps, LeftAndRight}
use Rattle.discv4_order.proofs.Calls.{numbers_in, left-all, e, Ok, either, commutes}
use Rattle.discv4_order.proofs.Low.{low-commutes}

module _ (own : Bytes) (count : ℕ) (one : 1 ≤ count) (most : count ≤ 256) where
  order-keeps : (x : State) → Ok own count one most x → OrderKeeps (e own count one most) x
  order-keeps x ok =
      let rules = e own count one most in
      let sound = Ok own count one most in
      let s = x.table in
      let low = low-commutes own count one most in
      record {
        either = either own count one most x ok;
        merges = λ ps qs are are' m.
            let alike = merges-alike told left rules sound IsCall (commutes own count one most) m (all_are s ps are) (all_are s qs are') x ok in
            (left-all x ps ∙ alike.state ∙ sym (left-all x qs), alike);
        numbers = λ ps. all_told_is s ps ∙ sym (numbers_in x (all_made s ps));
        low_either = λ r c d is_c is-d in_c in-d apart. low.either x ok r c d is_c is-d in_c in-d apart;
        low_merges = λ cs ds are are' m. merges-alike told_low left_low rules sound IsLow low m are are' x ok;
      }

-- ---- the claim

fresh_form : (key : Bytes) (count : ℕ) (one : 1 ≤ count) (most : count ≤ 256) → IsForm (keccak256 key) count one most (fresh_table key count)
fresh_form key count one most =
    let e : Env = with_keccak reading (keccak256 key) count in
    record {
      table = fresh e;
      sound = fresh_sound e (keccak_lawful reading (keccak256 key) count (keccak256-length key) (keccak256_bytes key));
      values = fresh-values e;
      is = refl;
    }

pub left_and_right : LeftAndRight
left_and_right memory key count accepted run are k =
    let one = from-1 memory key count accepted in
    let most = to-256 memory key count accepted in
    let own : Bytes = keccak256 key in
    let x : State = record { table = fresh_table key count; counters = k } in
    let after_run : Ok own count one most (after told left x (all_made x.table run)) =
    kept-after told left (e own count one most) (Ok own count one most) IsCall (commutes own count one most) x (fresh_form key count one most)
    (all_made x.table run) (all_are x.table run are) in
    let reached : IsForm own count one most (table_left_all (init_table memory key count) run) =
    rw (is-fresh memory key count accepted) (subst (Ok own count one most) (sym (left-all x run)) after_run) in
    order-keeps own count one most _ reached
