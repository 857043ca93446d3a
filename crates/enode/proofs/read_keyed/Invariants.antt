use Prim.Native.Nat.{◌-◌}
use mathlib.Core.Path.{◌≡◌}
use lib.ListN.{take, drop, replicate}
use Rattle.octets.specs.Octets.{part}
use Rattle.text.specs.Hex.{unhex}
use Rattle.enode.proofs.Reading.{Read}
use Rattle.enode.proofs.read_keyed.Given as goal

abbrev pub invariant-loop-i : goal.invariant-loop-i
invariant-loop-i l = record {
  read : Read (unhex (part l.line 8 128)) l.mark-items l.line (take l.i l.address) (drop l.i l.mark-items) l.at;
  zeros : drop l.i l.address ≡ replicate (16 - l.i) 0;
}
