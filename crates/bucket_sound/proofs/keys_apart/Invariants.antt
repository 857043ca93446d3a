use mathlib.Core.Path.{◌≡◌}
use Prim.Native.Nat.{◌+◌, ◌*◌, ◌-◌, ◌≤◌}
use Rattle.bucket_sound.specs.Steps.{keys_apart}
use Rattle.bucket_sound.proofs.keys_apart.Given as goal

abbrev pub invariant-loop-i : goal.invariant-loop-i
invariant-loop-i l = (l.i ≤ l.n) × (keys_apart l.bytes l.at l.n l.other l.m ≡ keys_apart l.bytes (l.at + l.i * 143) (l.n - l.i) l.other l.m)
