-- `bucket_range::line_settled` meets its contract. The invariant: the answer is that of the records from i on. Assumes nothing.
use Prim.Native.Nat.{◌+◌, ◌*◌}
use mathlib.Core.Path.{sym, ap, ◌∙◌}
use mathlib.Core.Bool.{not}
use native.Mathlib.Omega.{arith}
use Rattle.lists.specs.Lists.{all}
use Rattle.bucket_model.specs.Contents.{entries_at}
use Rattle.bucket_range.proofs.OnBytes.{stops, goes_on, from_start, all_none}
use Rattle.bucket_range.proofs.line_settled.Invariants.{waits}
use Rattle.bucket_range.proofs.line_settled.Goals as goal

pub loop-i-init : goal.loop-i-init
loop-i-init c = let args = c.args in
    (omega arith, from_start (λ x k. all (waits args.bytes.now args.at args.n) (entries_at args.bytes.now x k)) args.line args.m)

pub is_promoted_at-requires : goal.is_promoted_at-requires
is_promoted_at-requires c = (omega arith, c.requires.0)

pub returns-then-is_promoted_at : goal.returns-then-is_promoted_at
returns-then-is_promoted_at c = let at_loop = c in
    let args = at_loop.args in
    let s = args.bytes.now in
    stops s args.line args.m at_loop.loop-i.i (omega arith) (waits s args.at args.n) at_loop.loop-i.invariant.1
    (ap not (sym c.is_promoted_at.ensures ∙ c.if-is_promoted_at.true))

pub loop-i-preserved : goal.loop-i-preserved
loop-i-preserved c = let at_loop = c in
    let args = at_loop.args in
    let s = args.bytes.now in (
      omega arith,
      goes_on s args.line args.m at_loop.loop-i.i (omega arith) (waits s args.at args.n) at_loop.loop-i.invariant.1
          (ap not (sym c.is_promoted_at.ensures ∙ c.if-is_promoted_at.false)),
    )

pub returns : goal.returns
returns c = let at_loop = c in
    let args = at_loop.args in
    let s = args.bytes.now in
    sym (at_loop.loop-i.invariant.1 ∙ all_none (waits s args.at args.n) s (args.line + at_loop.loop-i.i * 143) args.m at_loop.loop-i.i (omega arith))
