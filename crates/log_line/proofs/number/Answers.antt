-- `log_line::number` meets its contract. Assumes nothing.
use mathlib.Core.Path.{◌≡◌, ap, ◌∙◌}
use native.Mathlib.Omega.{arith}
use Rattle.std.specs.Prelude.{Option}
use Rattle.std.specs.Option.{unwrap_or}
use Prim.Native.Nat.{ℕ}
use Rattle.text.specs.Decimals.{decimal_of}
use Rattle.log_line.specs.Forms.{number}
use Rattle.log_line.proofs.Numbers.{number-most}
use Rattle.log_line.proofs.number.Goals as goal

pub returns : goal.returns
unfolding number
returns c = let a = c.args in
    let e : c.unwrap_or.result ≡ number a.max a.line.now a.f =
    c.unwrap_or.ensures ∙ ap (λ (o : Option ℕ). unwrap_or o 0) (c.read_decimal.ensures ∙ ap (decimal_of a.max) c.text_of.ensures) in
    record { number = e; bound = omega (arith, e, number-most a.max a.line.now a.f) }
