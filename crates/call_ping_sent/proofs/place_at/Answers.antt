-- `call_ping_sent::place_at` meets its contract. Assumes nothing.
use mathlib.Core.Path.{refl}
use Rattle.std.proofs.lemmas.Result.{err_from_is_err_and}
use Rattle.lists.proofs.First.{not-passed, passed_on}
use Rattle.call_touched.specs.Placed.{NotPlaced}
use Rattle.call_touched.proofs.Refusals.{refused}
use Rattle.call_ping_sent.proofs.place_at.Goals as goal

pub returns-in_err-ping_number : goal.returns-in_err-ping_number
returns-in_err-ping_number c =
    let p = err_from_is_err_and c.from_residual.result c.from_residual.ensures.1 in
    rw (p.1, p.2) (not-passed NotPlaced _ c.in_err-ping_number.ensures (refused c.in_err-ping_number.field-0.0))

pub returns : goal.returns
returns c = passed_on NotPlaced _ c.in_ok-ping_number.ensures refl c.kept_place.ensures
