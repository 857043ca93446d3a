-- `entry::ping_stamp` meets its contract: each arm is given that the enum is its constructor. Assumes nothing.
use mathlib.Core.Path.{sym, ap}
use Rattle.entry.specs.Layout.{ping_stamp}
use Rattle.entry.proofs.ping_stamp.Goals as goal

pub returns-in-Quiet : goal.returns-in-Quiet
returns-in-Quiet c = sym (ap ping_stamp c.in-Quiet.is)

pub returns-in-Out : goal.returns-in-Out
returns-in-Out c = sym (ap ping_stamp c.in-Out.is)
