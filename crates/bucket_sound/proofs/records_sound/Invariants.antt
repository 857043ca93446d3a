use mathlib.Core.Path.{◌≡◌}
use Prim.Native.Nat.{◌+◌, ◌*◌, ◌-◌, ◌≤◌}
use Rattle.bucket_sound.specs.Steps.{home_if, record_sound, all_records}
use Rattle.bucket_sound.proofs.records_sound.Given as goal

abbrev pub invariant-loop-i : goal.invariant-loop-i
invariant-loop-i l = (l.i ≤ l.n)
    × (all_records (record_sound (home_if l.tested l.own l.number) l.clock.0 l.proved l.unproved) l.bytes l.at l.n
    ≡ all_records (record_sound (home_if l.tested l.own l.number) l.clock.0 l.proved l.unproved) l.bytes (l.at + l.i * 143) (l.n - l.i))
