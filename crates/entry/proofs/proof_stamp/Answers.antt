-- `entry::proof_stamp` meets its contract: each arm is given that the enum is its constructor. Assumes nothing.
use mathlib.Core.Path.{sym, ap}
use Rattle.entry.specs.Layout.{proof_stamp}
use Rattle.entry.proofs.proof_stamp.Goals as goal

pub returns-in-Unproved : goal.returns-in-Unproved
returns-in-Unproved c = sym (ap proof_stamp c.in-Unproved.is)

pub returns-in-At : goal.returns-in-At
returns-in-At c = sym (ap proof_stamp c.in-At.is)
