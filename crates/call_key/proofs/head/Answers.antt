-- `call_key::head` meets its contract. Assumes nothing.
use mathlib.Core.Path.{ap, ◌∙◌}
use Rattle.call_touched.specs.Placed.{placed}
use Rattle.call_key.specs.Head.{no_head}
use Rattle.call_key.proofs.Places.{not-placed, is_placed}
use Rattle.call_key.proofs.Heads.{refused-head, told-head}
use Rattle.call_key.proofs.head.Goals as goal

pub first_in-requires : goal.first_in-requires
first_in-requires c = rw c.in-Ok.is at c.key_place.ensures.1

pub returns-in-Err : goal.returns-in-Err
returns-in-Err c = let a = c.args in
    refused-head a.table.now a.key.now (not-placed a.table.now a.key.now c.key_place.ensures.0 (ap placed c.in-Err.is)) (c.no_head.ensures ∙ ap no_head c.number.ensures)

pub returns-in-Ok : goal.returns-in-Ok
returns-in-Ok c = let a = c.args in
    told-head a.table.now a.key.now (is_placed a.table.now a.key.now c.key_place.ensures.0 (ap placed c.in-Ok.is)) c.first_in.ensures
