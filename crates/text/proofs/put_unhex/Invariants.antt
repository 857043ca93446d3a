use mathlib.Core.Path.{◌≡◌}
use lib.ListN.{take}
use Rattle.octets.specs.Octets.{store}
use Rattle.text.specs.Hex.{unhex}
use Rattle.text.proofs.put_unhex.Given as goal

abbrev pub invariant-loop-i : goal.invariant-loop-i
invariant-loop-i l = l.buf ≡ store l.initial.buf l.at (take l.i (unhex l.s))
