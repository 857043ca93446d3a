-- `text::read_decimal` meets its contract. Assumes nothing.
use mathlib.Core.Path.{sym, ◌∙◌}
use Rattle.text.specs.Decimals.{decimal_of}
use Rattle.text.proofs.read_decimal.Goals as goal

pub returns-then-well_begun : goal.returns-then-well_begun
unfolding decimal_of
returns-then-well_begun c = c.read_digits.ensures ∙ sym (rw (sym c.well_begun.ensures ∙ c.if-well_begun.true))

pub returns-else-well_begun : goal.returns-else-well_begun
unfolding decimal_of
returns-else-well_begun c = sym (rw (sym c.well_begun.ensures ∙ c.if-well_begun.false))
