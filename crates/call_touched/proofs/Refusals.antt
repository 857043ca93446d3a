-- A refusal has a number. Assumes nothing.
use Prim.Native.Nat.{ℕ}
use mathlib.Core.Path.{◌≡◌}
use native.Mathlib.Omega.{arith}
use Rattle.numbers.specs.declared.Refusal.{Refusal}
use Rattle.numbers.specs.declared.Refusal.TheVariants.{Unsound, ClockBack, WrongLength, WrongHash, WrongKey, WrongAddress, OwnKey, UnknownType, BrokenData, WrongField, Expired, NotKept, NotVerified, NotAwaited, Late, HeldElsewhere, PingOut, LineFull, ShortRoom, NotWritable, Unreadable, NotEnode, NotWhole}
use Rattle.numbers.specs.Numbers.{number_of}

-- no refusal is answered by 0
pub refused : (r : Refusal) → number_of r ≡ 0 → ⊥
refused Unsound e = omega arith
refused ClockBack e = omega arith
refused WrongLength e = omega arith
refused WrongHash e = omega arith
refused WrongKey e = omega arith
refused WrongAddress e = omega arith
refused OwnKey e = omega arith
refused UnknownType e = omega arith
refused BrokenData e = omega arith
refused WrongField e = omega arith
refused Expired e = omega arith
refused NotKept e = omega arith
refused NotVerified e = omega arith
refused NotAwaited e = omega arith
refused Late e = omega arith
refused HeldElsewhere e = omega arith
refused PingOut e = omega arith
refused LineFull e = omega arith
refused ShortRoom e = omega arith
refused NotWritable e = omega arith
refused Unreadable e = omega arith
refused NotEnode e = omega arith
refused NotWhole e = omega arith
