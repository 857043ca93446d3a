use mathlib.Core.Path.{◌≡◌}
use Prim.Native.Nat.{◌≤◌}
use lib.ListN.{length, take}
use Rattle.octets.specs.Octets.{cut}
use Rattle.bucket.specs.Steps.{listed, remove_at}
use Rattle.bucket.proofs.EntryList.remove.Given as goal

abbrev pub invariant-loop-k : goal.invariant-loop-k
invariant-loop-k l = (l.k ≤ l.last) × ((length l.l.items ≡ 16) × (cut l.k 1 (take l.initial.l.len l.l.items) ≡ remove_at l.i (listed l.initial.l)))
