use mathlib.Core.Path.{◌≡◌}
use Rattle.octets.specs.Octets.{store, big_endian}
use Rattle.octets.proofs.put_number.Given as goal

abbrev pub invariant-loop-i : goal.invariant-loop-i
invariant-loop-i l = store l.bytes l.at (big_endian l.i l.rest) ≡ store l.initial.bytes l.at (big_endian l.width l.value)
