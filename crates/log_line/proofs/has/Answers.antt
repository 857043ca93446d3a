-- `log_line::has` meets its contract. Assumes nothing.
use mathlib.Core.Path.{sym, ap, ◌∙◌}
use Rattle.std.specs.Prelude.{is_some}
use Rattle.log_line.specs.Forms.{has}
use Rattle.log_line.proofs.has.Goals as goal

pub returns-in-Number : goal.returns-in-Number
unfolding has
returns-in-Number c = rw c.in-Number.is (c.is_some.ensures ∙ ap is_some c.read_decimal.ensures)

pub returns-in-Hex : goal.returns-in-Hex
unfolding has
returns-in-Hex c = rw c.in-Hex.is c.is_hex.ensures

pub returns-then-is_hex : goal.returns-then-is_hex
unfolding has
returns-then-is_hex c = rw (c.in-HexOrDash.is, sym c.is_hex-in-HexOrDash.ensures ∙ c.if-is_hex.true) c.if-is_hex.true

pub returns-else-is_hex : goal.returns-else-is_hex
unfolding has
returns-else-is_hex c = rw (c.in-HexOrDash.is, sym c.is_hex-in-HexOrDash.ensures ∙ c.if-is_hex.false) c.same_bytes.ensures
