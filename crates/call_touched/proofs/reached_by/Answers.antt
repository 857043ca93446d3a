-- `call_touched::reached_by` meets its contract. Assumes nothing.
use mathlib.Core.Path.{◌≡◌, sym, ap, ◌∙◌}
use mathlib.Core.Bool.{true}
use Rattle.table_model.specs.Layout.{header_sound}
use Rattle.call_touched.specs.declared.Reach.TheVariants.{At}
use Rattle.call_touched.specs.Steps.{touched_sound}
use Rattle.call_touched.proofs.Touch.{no_header, is_below, reaches, reaches-none}
use Rattle.call_touched.proofs.reached_by.Goals as goal

pub returns-then-not-header_sound : goal.returns-then-not-header_sound
returns-then-not-header_sound c = let a = c.args in
    no_header a.table.now a.key.now (sym c.header_sound.ensures ∙ c.if-not-header_sound.true)

pub touched_by-touched-requires : goal.touched_by-touched-requires
touched_by-touched-requires c = sym c.header_sound.ensures ∙ c.if-not-header_sound.false

pub touched_sound-requires : goal.touched_sound-requires
touched_sound-requires c = let a = c.args in
    let header : header_sound a.table.now ≡ true = sym c.header_sound.ensures ∙ c.if-not-header_sound.false in
    (header, rw c.touched_by-touched.ensures (is_below a.table.now a.key.now header))

pub returns-then-touched_sound : goal.returns-then-touched_sound
returns-then-touched_sound c = let a = c.args in
    let s = a.table.now in
    let header : header_sound s ≡ true = sym c.header_sound.ensures ∙ c.if-not-header_sound.false in
    let e = c.touched_by-touched.ensures in
    ap At e ∙ reaches s a.key.now header (sym (c.touched_sound.ensures ∙ ap (touched_sound s) e) ∙ c.if-touched_sound.true)

pub returns : goal.returns
returns c = let a = c.args in
    let s = a.table.now in
    let header : header_sound s ≡ true = sym c.header_sound.ensures ∙ c.if-not-header_sound.false in
    let e = c.touched_by-touched.ensures in
    reaches-none s a.key.now header (sym (c.touched_sound.ensures ∙ ap (touched_sound s) e) ∙ c.if-touched_sound.false)
