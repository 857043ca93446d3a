use Rattle.distance.specs.Distance.{distance}
use Rattle.closest_order.proofs.Filled.{Filled}
use Rattle.closest_order.proofs.taking_order.Given as goal

abbrev pub invariant-loop-i : goal.invariant-loop-i
invariant-loop-i l = Filled (distance l.own l.target) l.count l.order l.front l.back l.i
