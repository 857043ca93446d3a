use mathlib.Core.Path.{◌≡◌}
use lib.ListN.{length}
use Rattle.call_burst_lists.specs.Times.{lent_by}
use Rattle.call_burst.proofs.Run.{Going}
use Rattle.call_burst.proofs.hand_over_all.Given as goal

abbrev pub invariant-loop-i : goal.invariant-loop-i
invariant-loop-i l = Going l.low l.initial.table (lent_by l.low l.buffer l.lengths l.signers l.addresses l.ports l.millis l.readings l.unix) l.at l.i l.table l.numbers × (length l.table ≡ length l.initial.table)
