-- `call_touched::reached_in` meets its contract. Assumes nothing.
use mathlib.Core.Path.{ap, ◌∙◌}
use Rattle.call_model.proofs.IfAny.{some_sound, sound-head, no_head}
use Rattle.call_touched.specs.declared.Reach.TheVariants.{At}
use Rattle.call_touched.proofs.Touch.{no_header, reaches-sound}
use Rattle.call_touched.proofs.reached_in.Goals as goal

pub returns-then-table-eq0 : goal.returns-then-table-eq0
returns-then-table-eq0 c = let a = c.args in
    no_header a.table.now a.key.now (no_head a.table.now c.if-table-eq0.true)

pub touched_by-requires : goal.touched_by-requires
touched_by-requires c = let start = c in
    sound-head _ (some_sound _ start.requires c.if-table-eq0.false)

pub returns : goal.returns
returns c = let start = c in
    let s = start.args.table.now in
    ap At c.touched_by.ensures ∙ reaches-sound s start.args.key.now (some_sound s start.requires c.if-table-eq0.false)
