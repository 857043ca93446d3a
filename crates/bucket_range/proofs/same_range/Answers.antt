-- `bucket_range::same_range` meets its contract. Assumes nothing.
use mathlib.Core.Path.{◌≡◌, sym}
use native.Mathlib.Omega.{arith}
use lib.ListN.{length}
use lib.Seq.{length-take-le}
use Rattle.bucket_range.proofs.Laws.{third-differs, long-first, long-second, first_three}
use borrow.Author.Rules.{rules}
use Rattle.bucket_range.proofs.same_range.Goals as goal

pub returns-then-one-other : goal.returns-then-one-other
returns-then-one-other c = let args = c.args in
    third-differs args.a args.b c.if-one-other.true

pub returns-then-a-ne4 : goal.returns-then-a-ne4
returns-then-a-ne4 c = let args = c.args in
    long-first args.a args.b c.if-a-ne4.true

pub returns-then-b-ne4 : goal.returns-then-b-ne4
returns-then-b-ne4 c = let args = c.args in
    long-second args.a args.b c.if-a-ne4.false c.if-b-ne4.true

pub slice_bounds-one-end : goal.slice_bounds-one-end
slice_bounds-one-end c =
    let one_size : length c.args.a.address ≡ 16 = search rules in
    omega (arith, one_size)

pub slice_bounds-same_bytes-end : goal.slice_bounds-same_bytes-end
slice_bounds-same_bytes-end c =
    let one_size : length c.args.a.address ≡ 16 = search rules in
    let start = c in
    sym (length-take-le 3 start.args.a.address (omega (arith, one_size)))

pub slice_bounds-other-end : goal.slice_bounds-other-end
slice_bounds-other-end c =
    let other_size : length c.args.b.address ≡ 16 = search rules in
    omega (arith, other_size)

pub slice_bounds-same_bytes-end-2 : goal.slice_bounds-same_bytes-end-2
slice_bounds-same_bytes-end-2 c =
    let other_size : length c.args.b.address ≡ 16 = search rules in
    let start = c in
    sym (length-take-le 3 start.args.b.address (omega (arith, other_size)))

pub returns : goal.returns
returns c = let at_tests = c in
    let args = at_tests.args in
    first_three args.a args.b at_tests.if-a-ne4.false at_tests.if-b-ne4.false c.same_bytes.ensures
