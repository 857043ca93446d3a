-- `capi::coghammer_state` meets its contract. Assumes nothing.
use mathlib.Core.Path.{ap, ◌∙◌}
use Rattle.printout_table.specs.declared.TableState.{TableState}
use Rattle.capi_table.specs.Told.{told_state}
use Rattle.capi.proofs.coghammer_state.Goals as goal

pub returns : goal.returns
returns c = let a = c.args in
    let e = c.table_state-state.ensures in
    record {
      value = c.tell_state.ensures.0 ∙ ap (λ (t : TableState). t.number) e;
      told_after = c.tell_state.ensures.1 ∙ ap (λ (t : TableState). told_state t a.told.now) e;
    }
