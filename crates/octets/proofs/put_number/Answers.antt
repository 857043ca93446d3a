-- `octets::put_number` meets its contract. The invariant: with the i bytes that are left stored, the answer is there. Assumes nothing.
use mathlib.Core.Path.{◌≡◌, refl, ◌∙◌}
use native.Mathlib.Omega.{arith}
use Rattle.octets.specs.Octets.{big_endian}
use Rattle.octets.proofs.Laws.{store-big_endian}
use Rattle.octets.proofs.put_number.Goals as goal

pub loop-i-init : goal.loop-i-init
loop-i-init c = refl

pub loop-i-preserved : goal.loop-i-preserved
loop-i-preserved c = store-big_endian c.loop-i.bytes c.args.at c.loop-i.i c.loop-i.rest (omega arith) ∙ c.loop-i.invariant

pub returns : goal.returns
unfolding big_endian
returns c = let e : c.loop-i.i ≡ 0 = omega arith in rw e at c.loop-i.invariant
