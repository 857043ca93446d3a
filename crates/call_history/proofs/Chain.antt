-- Where each call's definition on bytes, at the byte form of a sound table, is the model's step, every list of calls follows the
-- rules.
use Prim.Native.Nat.{ℕ}
use mathlib.Core.Path.{◌≡◌, refl, ap, ap₂, sym, ◌∙◌}
use mathlib.Core.List.{List, [], ◌∷◌}
use Rattle.octets.specs.Octets.{Bytes}
use Rattle.lists.specs.Lists.{All}
use Rattle.call_history.specs.Model.{Env, Lawful, Call, Table, answer, next, fresh, answers, table_after_all, Run, start, advance, run_from}
use Rattle.call_history.specs.Chain.{IsCall, answers_on, bytes_after_all, FollowsRules, Demand3OnBytes}
use Rattle.call_history.proofs.Demand3.{demand3}
use Rattle.call_history.proofs.Sound.{TableSound, IsTable, fresh_sound, fresh-values, next-sound, next-values}

-- a run's table is the table after its calls
pub run_table : (e : Env) (r : Run e) (cs : List Call) → (run_from e r cs).table ≡ table_after_all e r.table cs
run_table e r [] = refl
run_table e r (c ∷ cs) = run_table e (advance e r c) cs

module _ (answer_on : Bytes → Call → ℕ) (bytes_after : Bytes → Call → Bytes) (e : Env) (encode : Table → Bytes) where
  -- the call's step is the model's
  abbrev pub StepFollows : Type 0
  StepFollows =
      (s : Table) (c : Call) → TableSound e s → IsTable e s → IsCall c
      → (answer_on (encode s) c ≡ answer e s c) × (bytes_after (encode s) c ≡ encode (next e s c))

  module _ (law : Lawful e) (step : StepFollows) where
    from : (s : Table) → TableSound e s → IsTable e s → (calls : List Call) → All IsCall calls
        → (answers_on answer_on bytes_after (encode s) calls ≡ answers e s calls)
        × (bytes_after_all answer_on bytes_after (encode s) calls ≡ encode (table_after_all e s calls))
    from s ok values [] is = (refl, refl)
    from s ok values (c ∷ cs) is =
        let one = step s c ok values is.0 in
        let more = from (next e s c) (next-sound e s ok c) (next-values e s ok values c is.0) cs is.1 in (
          ap₂ ◌∷◌ one.0 (ap (λ m. answers_on answer_on bytes_after m cs) one.1 ∙ more.0),
          ap (λ m. bytes_after_all answer_on bytes_after m cs) one.1 ∙ more.1,
        )

    pub list-follows : (calls : List Call) → All IsCall calls → FollowsRules answer_on bytes_after e encode calls
    list-follows calls is =
        let all = from (fresh e) (fresh_sound e law) (fresh-values e) calls is in
        record { numbers = all.0; bytes = all.1 ∙ ap encode (sym (run_table e (start e) calls)) }

    pub demand3-on-bytes : (calls : List Call) → All IsCall calls → Demand3OnBytes answer_on bytes_after e encode calls
    demand3-on-bytes calls is = record { follows = list-follows calls is; demand = demand3 e law calls }
