-- `enode::field_at` meets its contract. Assumes nothing.
use mathlib.Core.Path.{sym, ap, ◌∙◌}
use Rattle.text.specs.Decimals.{decimal_of}
use Rattle.text.proofs.Marks.{take-until}
use Rattle.enode.proofs.Reading.{field_open, field-by}
use native.Mathlib.Omega.{arith}
use Rattle.enode.proofs.field_at.Goals as goal

pub returns-then-end-s : goal.returns-then-end-s
returns-then-end-s c = let a = c.args in
    sym (field_open a.mark a.limit a.s.now a.at (sym c.find-end.ensures.end ∙ c.if-end-s.true))

pub returns-in_err-value : goal.returns-in_err-value
returns-in_err-value c = let a = c.args in
    let f = c.find-end in
    let cut = take-until a.mark a.s.now a.at f.result f.ensures.end in
    c.from_residual.ensures ∙ sym (field-by a.mark a.limit a.s.now a.at (omega (arith, f.ensures.end, f.ensures.within)) (ap (decimal_of a.limit) (sym cut) ∙ sym c.read_decimal.ensures ∙ c.in_err-value.was))

pub returns : goal.returns
returns c = let a = c.args in
    let f = c.find-end in
    let cut = take-until a.mark a.s.now a.at f.result f.ensures.end in
    rw f.ensures.end (sym (field-by a.mark a.limit a.s.now a.at (omega (arith, f.ensures.end, f.ensures.within)) (ap (decimal_of a.limit) (sym cut) ∙ sym c.read_decimal.ensures ∙ c.in_ok-value.was)))
