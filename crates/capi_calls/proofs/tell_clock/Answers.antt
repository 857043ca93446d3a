-- `capi_calls::tell_clock` meets its contract. Assumes nothing.
use mathlib.Core.Path.{refl}
use Rattle.capi_calls.proofs.tell_clock.Goals as goal

pub returns-in-Ok : goal.returns-in-Ok
returns-in-Ok c = rw c.in-Ok.is (refl, refl)
