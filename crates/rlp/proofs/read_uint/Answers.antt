-- `rlp::read_uint` meets its contract. Assumes nothing.
use Rattle.std.specs.Prelude.{Some}
use mathlib.Core.Path.{ap, ◌∙◌}
use native.Mathlib.Omega.{arith}
use lib.ListN.{length}
use Rattle.octets.specs.Octets.{number}
use Rattle.octets.proofs.Laws.{part_all}
use Rattle.rlp.proofs.Reading.{uint-value, no_leading_zero}
use Rattle.rlp.proofs.read_uint.Goals as goal

pub returns : goal.returns
returns c = let s = c.args.s.now in
    ap Some (c.number_at.ensures ∙ ap number (part_all s (length s) (omega arith)))
    ∙ uint-value s (omega arith)
    (no_leading_zero s (λ p e. grind arith))
