use mathlib.Core.Path.{◌≡◌}
use Prim.Native.Nat.{◌≤◌}
use Rattle.closest_nodes.specs.Listing.{node_at}
use Rattle.walk.proofs.Written.{upto}
use Rattle.closest.proofs.store_nodes.Given as goal

abbrev pub invariant-loop-i : goal.invariant-loop-i
invariant-loop-i l = (l.i ≤ l.choice.nearest.count) × (l.list ≡ upto (node_at l.table) l.choice.nearest.list l.initial.list l.i)
