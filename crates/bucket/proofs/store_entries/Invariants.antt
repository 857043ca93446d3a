use mathlib.Core.Path.{◌≡◌}
use Prim.Native.Nat.{◌*◌, ◌≤◌}
use lib.ListN.{length, take}
use Rattle.octets.specs.Octets.{store}
use Rattle.bucket_model.specs.Contents.{encode_entries}
use Rattle.bucket.proofs.store_entries.Given as goal

abbrev pub invariant-loop-i : goal.invariant-loop-i
invariant-loop-i l = (l.i ≤ l.l.len) × ((length (encode_entries (take l.i l.l.items)) ≡ l.i * 143) × (l.bytes ≡ store l.initial.bytes l.at (encode_entries (take l.i l.l.items))))
