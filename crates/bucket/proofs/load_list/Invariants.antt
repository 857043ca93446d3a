use mathlib.Core.Path.{◌≡◌}
use Prim.Native.Nat.{◌≤◌}
use lib.ListN.{length, take}
use Rattle.bucket_model.specs.Contents.{entries_at}
use Rattle.bucket.proofs.load_list.Given as goal

abbrev pub invariant-loop-i : goal.invariant-loop-i
invariant-loop-i l = (l.i ≤ l.n) × ((length l.l.items ≡ 16) × (take l.i l.l.items ≡ entries_at l.bytes l.at l.i))
