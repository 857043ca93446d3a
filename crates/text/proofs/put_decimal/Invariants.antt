use mathlib.Core.Path.{◌≡◌}
use lib.ListN.{length}
use Rattle.text.proofs.Decimals.{Written}
use Rattle.text.proofs.put_decimal.Given as goal

abbrev pub invariant-loop-i : goal.invariant-loop-i
invariant-loop-i l = record {
  size : length l.buf ≡ length l.initial.buf;
  written : Written l.initial.buf l.buf l.at l.n l.rest l.i;
}
