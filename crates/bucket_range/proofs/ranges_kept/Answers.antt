-- `bucket_range::ranges_kept` meets its contract. The invariant: the answer is that of the records from i on. Assumes nothing.
use Prim.Native.Nat.{◌+◌, ◌*◌}
use mathlib.Core.Path.{sym, ◌∙◌}
use native.Mathlib.Omega.{arith}
use Rattle.bucket_model.specs.Contents.{entries_at}
use Rattle.bucket_model.specs.Sound.{ranges_kept}
use Rattle.bucket_range.proofs.OnBytes.{stops-kept, goes-on-kept, from_start, kept_none}
use Rattle.bucket_range.proofs.ranges_kept.Goals as goal

pub loop-i-init : goal.loop-i-init
loop-i-init c = let args = c.args in
    (omega arith, from_start (λ x k. ranges_kept (entries_at args.bytes.now x k)) args.at args.n)

pub range_count_at-requires : goal.range_count_at-requires
range_count_at-requires c = (omega arith, (omega arith, omega arith))

pub returns-then-range_count_at-ge-MOST : goal.returns-then-range_count_at-ge-MOST
returns-then-range_count_at-ge-MOST c = let at_loop = c in
    let args = at_loop.args in
    stops-kept args.bytes.now args.at args.n at_loop.loop-i.i (omega arith)
    c.range_count_at.ensures at_loop.loop-i.invariant.1 c.if-range_count_at-ge-MOST.true

pub loop-i-preserved : goal.loop-i-preserved
loop-i-preserved c = let at_loop = c in
    let args = at_loop.args in (
      omega arith,
      goes-on-kept args.bytes.now args.at args.n at_loop.loop-i.i (omega arith)
          c.range_count_at.ensures at_loop.loop-i.invariant.1 (omega (arith, c.if-range_count_at-ge-MOST.false)),
    )

pub returns : goal.returns
returns c = let at_loop = c in
    let args = at_loop.args in
    sym (at_loop.loop-i.invariant.1 ∙ kept_none args.bytes.now (args.at + at_loop.loop-i.i * 143) args.n at_loop.loop-i.i (omega arith))
