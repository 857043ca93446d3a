-- `rlp::item_offset` meets its contract. The invariant: of the n items, those that no turn took are to be passed over. Assumes nothing.
use Prim.Native.Nat.{◌+◌, ◌-◌}
use mathlib.Core.Path.{◌≡◌, ◌∙◌}
use native.Mathlib.Omega.{arith}
use Rattle.rlp.proofs.Reading.{end-bound, offset-on, offset-off}
use Rattle.rlp.proofs.item_offset.Goals as goal

pub returns-then-end-at : goal.returns-then-end-at
returns-then-end-at c =
    let end = c.item_end-end in
    omega (arith, offset-off c.args.s.now c.loop.at end.result end.ensures c.if-end-at.true (c.args.n - c.loop.counter))

pub loop-preserved : goal.loop-preserved
loop-preserved c = let l = c.loop in
    let s = c.args.s.now in
    let end = c.item_end-end in
    let left : c.args.n - (l.counter + 1) ≡ c.args.n - l.counter - 1 = omega arith in (
      (end-bound s l.at end.result end.ensures l.invariant.0).1,
      rw left (offset-on s l.at end.result end.ensures (c.args.n - l.counter) (omega arith) ∙ l.invariant.1),
    )
