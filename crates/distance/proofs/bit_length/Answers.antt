-- `distance::bit_length` meets its contract. The invariant: the first i bytes do not differ. Assumes nothing.
use mathlib.Core.Path.{◌≡◌, sym, ap, ◌∙◌}
use Prim.Native.Nat.{ℕ, ◌*◌, ◌-◌}
use native.Mathlib.Omega.{arith}
use lib.Count.{leading_le}
use lib.ListN.{get_or}
use lib.Bits.{bit_xor}
use Rattle.distance.proofs.Laws.{none, equal-turn, differs_at, all-equal}
use Rattle.distance.proofs.bit_length.Goals as goal

pub loop-i-init : goal.loop-i-init
loop-i-init c = let args = c.args in (omega arith, none args.a.now args.b.now)

pub overflow_sub-result-then-x-ne0 : goal.overflow_sub-result-then-x-ne0
overflow_sub-result-then-x-ne0 c = omega (arith, c.zeros.ensures, leading_le 8 (bit_xor (get_or c.args.a.now c.loop-i.i 0) (get_or c.args.b.now c.loop-i.i 0)))

pub returns-then-x-ne0 : goal.returns-then-x-ne0
returns-then-x-ne0 c = let at_loop = c in
    let known = at_loop in
    let args = known.args in
    let pre = known.requires in
    ap (λ (z : ℕ). 8 * (32 - at_loop.loop-i.i) - z) c.zeros.ensures
    ∙ differs_at args.a.now args.b.now pre.0 pre.1 (λ k. (known.shared_slice_known-1.given k).fits) (λ k. (known.shared_slice_known-2-1.given k).fits)
    at_loop.loop-i.i (omega arith) at_loop.loop-i.invariant.1 c.if-x-ne0.true

pub loop-i-preserved : goal.loop-i-preserved
loop-i-preserved c = let at_loop = c in
    let known = at_loop in
    let args = known.args in
    let pre = known.requires in (
      omega arith,
      equal-turn args.a.now args.b.now pre.0 pre.1 (λ k. (known.shared_slice_known-1.given k).fits) (λ k. (known.shared_slice_known-2-1.given k).fits)
          at_loop.loop-i.i (omega arith) at_loop.loop-i.invariant.1 c.if-x-ne0.false,
    )

pub returns : goal.returns
returns c = let at_loop = c in
    let known = at_loop in
    let args = known.args in
    let pre = known.requires in
    let e : at_loop.loop-i.i ≡ 32 = omega arith in
    sym (all-equal args.a.now args.b.now pre.0 pre.1 (λ k. (known.shared_slice_known-1.given k).fits) (λ k. (known.shared_slice_known-2-1.given k).fits)
    (rw e at at_loop.loop-i.invariant.1))
