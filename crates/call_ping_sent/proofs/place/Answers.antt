-- `call_ping_sent::place` meets its contract. Assumes nothing.
use mathlib.Core.Path.{refl}
use Rattle.call_ping_sent.proofs.place.Goals as goal

pub place_at-requires : goal.place_at-requires
place_at-requires c = rw c.in-At.is at c.requires

pub returns-in-Unsound : goal.returns-in-Unsound
returns-in-Unsound c = rw c.in-Unsound.is refl

pub returns-in-At : goal.returns-in-At
returns-in-At c = rw c.in-At.is c.place_at.ensures
