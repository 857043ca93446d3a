-- `call_low::full_clock` meets its contract. Assumes nothing.
use mathlib.Core.Path.{sym, ◌∙◌}
use Rattle.call_low.proofs.Front.{full-unsound, full-sound}
use Rattle.call_low.proofs.full_clock.Goals as goal

pub returns-then-not-header_sound : goal.returns-then-not-header_sound
returns-then-not-header_sound c = let a = c.args in
    full-unsound a.table.now a.reading.0 (sym c.header_sound.ensures ∙ c.if-not-header_sound.true)

pub returns : goal.returns
returns c = let a = c.args in
    full-sound a.table.now a.reading.0 (sym c.header_sound.ensures ∙ c.if-not-header_sound.false) c.low_clock.ensures
