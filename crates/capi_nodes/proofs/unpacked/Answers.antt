-- `capi_nodes::unpacked` meets its contract. Assumes nothing.
use mathlib.Core.Path.{◌≡◌, refl}
use Prim.Native.Nat.{◌/◌}
use native.Mathlib.Omega.{arith}
use lib.ListN.{length, length-set}
use Rattle.table_model.specs.Layout.{tabulate}
use Rattle.capi_nodes.proofs.Packed.{few, turn}
use Rattle.capi_nodes.proofs.unpacked.Goals as goal

pub loop-i-init : goal.loop-i-init
unfolding tabulate
loop-i-init c = (refl, refl)

pub packed_at-requires : goal.packed_at-requires
packed_at-requires c = let a = c.args in (omega (arith, few a.nodes.now c.requires), omega arith)

pub loop-i-preserved : goal.loop-i-preserved
loop-i-preserved c = let a = c.args in
    let l = c.loop-i in
    (simp length-set l.invariant.0, turn a.nodes.now l.list l.i (omega (arith, few a.nodes.now c.requires, l.invariant.0)) l.invariant.1 c.packed_at.ensures)

pub returns : goal.returns
returns c = let a = c.args in
    let e : c.loop-i.i ≡ length a.nodes.now / 85 = omega arith in
    (refl, rw e at c.loop-i.invariant.1)
