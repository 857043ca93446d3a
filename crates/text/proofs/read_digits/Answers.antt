-- `text::read_digits` meets its contract. The invariant: reading goes on from the value. Assumes nothing.
use mathlib.Core.Path.{◌≡◌, sym, ap, ◌∙◌}
use mathlib.Core.List.{[], ◌∷◌}
use Prim.Native.Nat.{suc}
use native.Mathlib.Numerals.{add-one}
use native.Mathlib.Omega.{arith}
use lib.ListN.{get_or, drop}
use lib.Seq.{drop-cons}
use Rattle.std.specs.Prelude.{Some, None}
use Rattle.text.specs.Decimals.{digits_from}
use Rattle.text.proofs.Decimals.{digits_on, digits_off}
use Rattle.text.proofs.read_digits.Goals as goal

pub loop-b-preserved : goal.loop-b-preserved
loop-b-preserved c = let l = c.loop-b in
    let a = c.args in
    let s = a.s.now in
    let read : digits_from a.limit l.value (get_or s l.b-index 0 ∷ []) ≡ Some c.in_ok-value.value = sym c.push_digit.ensures ∙ c.in_ok-value.was in
    rw add-one (sym (digits_on a.limit l.value (get_or s l.b-index 0) _ (drop (suc l.b-index) s) read) ∙ ap (digits_from a.limit l.value) (sym (drop-cons s l.b-index 0 (omega arith))) ∙ l.invariant)

pub returns-in_err-value : goal.returns-in_err-value
returns-in_err-value c = let l = c.loop-b in
    let a = c.args in
    let s = a.s.now in
    let off : digits_from a.limit l.value (get_or s l.b-index 0 ∷ []) ≡ None = sym c.push_digit.ensures ∙ c.in_err-value.was in
    c.from_residual.ensures ∙ sym (digits_off a.limit l.value (get_or s l.b-index 0) (drop (suc l.b-index) s) off) ∙ ap (digits_from a.limit l.value) (sym (drop-cons s l.b-index 0 (omega arith))) ∙ l.invariant
