-- `call_key::find` meets its contract. Assumes nothing.
use mathlib.Core.Path.{ap, ◌∙◌}
use Rattle.call_touched.specs.Placed.{placed}
use Rattle.call_key.specs.Held.{not_found}
use Rattle.call_key.proofs.Places.{not-placed, is_placed}
use Rattle.call_key.proofs.Founds.{refused-find, found-place}
use Rattle.call_key.proofs.find.Goals as goal

pub found_in-requires : goal.found_in-requires
found_in-requires c = rw c.in-Ok.is at c.key_place.ensures.1

pub returns-in-Err : goal.returns-in-Err
returns-in-Err c = let a = c.args in
    refused-find a.table.now a.key.now (not-placed a.table.now a.key.now c.key_place.ensures.0 (ap placed c.in-Err.is)) (c.not_found.ensures ∙ ap not_found c.number.ensures)

pub returns-in-Ok : goal.returns-in-Ok
returns-in-Ok c = let a = c.args in
    let p = is_placed a.table.now a.key.now c.key_place.ensures.0 (ap placed c.in-Ok.is) in
    found-place a.table.now a.key.now (λ k. (c.shared_slice_known-1.given k).fits) p.0 p.1 c.found_in.ensures
