-- `capi_enode::tell_written` meets its contract. Assumes nothing.
use mathlib.Core.Path.{refl}
use Rattle.capi_enode.proofs.tell_written.Goals as goal

pub returns-in-Ok : goal.returns-in-Ok
returns-in-Ok c = rw c.in-Ok.is (refl, refl)
