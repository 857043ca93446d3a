-- `call_low::sweep_low_on` meets its contract. Assumes nothing.
use mathlib.Core.Path.{refl, sym, ap, ◌∙◌}
use Rattle.std.specs.Prelude.{Err}
use Rattle.call_history.specs.Model.{Call, sweep}
use Rattle.call_low.proofs.Front.{low-unsound, low-back, low-at}
use Rattle.call_low.proofs.sweep_low_on.Goals as goal

pub returns-in-Err-Unsound : goal.returns-in-Err-Unsound
returns-in-Err-Unsound c =
    let asked : Call = let a = c.args in
    sweep a.reading.0 in
    let start = c in record { value = (low-unsound start.args.table.now asked refl (sym c.low_clock.ensures ∙ c.in-Err-Unsound.is ∙ ap Err c.in-Err-Unsound.field-0-is)).0; table_after = (low-unsound start.args.table.now asked refl (sym c.low_clock.ensures ∙ c.in-Err-Unsound.is ∙ ap Err c.in-Err-Unsound.field-0-is)).1 }

pub returns-in-Err-Back : goal.returns-in-Err-Back
returns-in-Err-Back c =
    let asked : Call = let a = c.args in
    sweep a.reading.0 in
    let start = c in record {
      value = (low-back start.args.table.now asked refl
          (sym c.low_clock.ensures ∙ c.in-Err-Back.is ∙ ap Err c.in-Err-Back.field-0-is) c.back_number_of_all.ensures).0;
      table_after = (low-back start.args.table.now asked refl
          (sym c.low_clock.ensures ∙ c.in-Err-Back.is ∙ ap Err c.in-Err-Back.field-0-is) c.back_number_of_all.ensures).1;
    }

pub returns-in-Ok : goal.returns-in-Ok
returns-in-Ok c =
    let asked : Call = let a = c.args in
    sweep a.reading.0 in
    let start = c in record {
      value = (low-at start.args.table.now asked refl _
          (sym c.low_clock.ensures ∙ c.in-Ok.is)
          c.sweep_on.ensures.value c.sweep_on.ensures.table_after).0;
      table_after = (low-at start.args.table.now asked refl _
          (sym c.low_clock.ensures ∙ c.in-Ok.is)
          c.sweep_on.ensures.value c.sweep_on.ensures.table_after).1;
    }
