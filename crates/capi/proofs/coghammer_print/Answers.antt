-- `capi::coghammer_print` meets its contract. Assumes nothing.
use mathlib.Core.Path.{ap, ◌∙◌}
use Rattle.printout_table.specs.declared.Printed.{Printed}
use Rattle.capi_table.specs.Told.{told_size}
use Rattle.capi.proofs.coghammer_print.Goals as goal

pub returns : goal.returns
returns c = let a = c.args in
    let w = c.print_table-answer.ensures in
    let t = c.tell_printed.ensures in
    record {
      value = t.0 ∙ ap (λ (p : Printed). p.number) w.value;
      buf_after = w.out_after;
      size_after = t.1 ∙ ap (λ (p : Printed). told_size p a.size.now) w.value;
    }
