-- `bucket_range::range_count_at` meets its contract. The invariant: k of the first i records, and those of the rest. Assumes nothing.
use Prim.Native.Nat.{◌+◌, ◌*◌}
use mathlib.Core.Path.{ap, ◌∙◌}
use mathlib.Core.Bool.{cond}
use native.Mathlib.Omega.{arith}
use Rattle.bucket_model.specs.Contents.{entries_at}
use Rattle.bucket_model.specs.Rules.{range_count}
use Rattle.bucket_range.proofs.Laws.{counted, as_number}
use Rattle.bucket_range.proofs.OnBytes.{endpoint_at, count_left, from_start, no_count}
use Rattle.bucket_range.proofs.range_count_at.Goals as goal

pub loop-i-init : goal.loop-i-init
loop-i-init c = let args = c.args in
    let start = from_start (λ x j. range_count (endpoint_at args.bytes.now args.a) (entries_at args.bytes.now x j)) args.at args.n in
    (omega arith, omega arith, omega (arith, start))

pub same_range_at-requires : goal.same_range_at-requires
same_range_at-requires c = (omega arith, omega arith)

pub overflow_add-k : goal.overflow_add-k
overflow_add-k c = omega (arith, c.loop-i.invariant.1, counted c.same_range_at.result (c.from-k.ensures ∙ as_number c.same_range_at.result))

pub loop-i-preserved : goal.loop-i-preserved
loop-i-preserved c = let at_loop = c in
    let args = at_loop.args in
    let one = count_left args.bytes.now args.at args.n at_loop.loop-i.i (omega arith) (endpoint_at args.bytes.now args.a) in
    let is = c.from-k.ensures ∙ as_number c.same_range_at.result ∙ ap (λ b. cond b 1 0) c.same_range_at.ensures in
    (omega arith, omega (arith, counted c.same_range_at.result (c.from-k.ensures ∙ as_number c.same_range_at.result)), omega (arith, at_loop.loop-i.invariant.2, one, is))

pub returns : goal.returns
returns c = let at_loop = c in
    let args = at_loop.args in
    omega (
      arith,
      at_loop.loop-i.invariant.2,
      no_count (endpoint_at args.bytes.now args.a) args.bytes.now (args.at + at_loop.loop-i.i * 143) args.n at_loop.loop-i.i (omega arith),
    )
