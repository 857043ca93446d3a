use mathlib.Core.Path.{◌≡◌}
use Prim.Native.Nat.{◌+◌, ◌*◌, ◌-◌, ◌≤◌}
use Rattle.octets.specs.Octets.{part}
use Rattle.lists.specs.Lists.{any}
use Rattle.bucket_model.specs.Contents.{entries_at}
use Rattle.bucket_model.specs.Rules.{is_of}
use Rattle.bucket_sound.proofs.absent.Given as goal

abbrev pub invariant-loop-i : goal.invariant-loop-i
invariant-loop-i l = (l.i ≤ l.n) × (any (is_of (part l.bytes l.key 64)) (entries_at l.bytes l.at l.n) ≡ any (is_of (part l.bytes l.key 64)) (entries_at l.bytes (l.at + l.i * 143) (l.n - l.i)))
