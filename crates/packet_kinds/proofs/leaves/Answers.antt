-- `packet_kinds::leaves` meets its contract. Assumes nothing.
use mathlib.Core.Path.{◌∙◌}
use Rattle.rlp.proofs.Reading.{head_at, item_at}
use Rattle.packet_kinds.specs.declared.Kind.TheVariants.{Uint}
use Rattle.packet_kinds.proofs.ItemTurns.{leaves_none, leaves-item, leaves-stop}
use Rattle.packet_kinds.proofs.leaves.Goals as goal

pub returns-in_default : goal.returns-in_default
returns-in_default c = let l = c.loop-kind in
    let a = c.args in
    leaves_none a.kinds.now l.kind-index a.s.now l.at c.loop-kind-test.true (Uint 0) (head_at a.s.now l.at c.read_header.ensures c.in_default.is) ∙ l.invariant.1

pub loop-kind-preserved : goal.loop-kind-preserved
loop-kind-preserved c = let l = c.loop-kind in
    let a = c.args in
    let h = head_at a.s.now l.at c.read_header.ensures c.in-Some.is in (
      (item_at a.s.now l.at l.invariant.0 h).1,
      leaves-item a.kinds.now l.kind-index a.s.now l.at c.loop-kind-test.true (Uint 0) h c.is_leaf.ensures c.if-not-is_leaf.false ∙ l.invariant.1,
    )

pub returns-then-not-is_leaf : goal.returns-then-not-is_leaf
returns-then-not-is_leaf c = let l = c.loop-kind in
    let a = c.args in
    let h = head_at a.s.now l.at c.read_header.ensures c.in-Some.is in
    leaves-stop a.kinds.now l.kind-index a.s.now l.at c.loop-kind-test.true (Uint 0) h c.is_leaf.ensures c.if-not-is_leaf.true ∙ l.invariant.1
