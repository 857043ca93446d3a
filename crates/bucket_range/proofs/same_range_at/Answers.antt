-- `bucket_range::same_range_at` meets its contract. Assumes nothing.
use Rattle.bucket_range.proofs.OnBytes.{third-differs, long-first, long-second, first_three}
use Rattle.bucket_range.proofs.same_range_at.Goals as goal

pub returns-then-bytes-a : goal.returns-then-bytes-a
returns-then-bytes-a c = let args = c.args in
    third-differs args.bytes.now args.a args.b c.if-bytes-a.true

pub returns-then-bytes-a-ne4 : goal.returns-then-bytes-a-ne4
returns-then-bytes-a-ne4 c = let args = c.args in
    long-first args.bytes.now args.a args.b c.if-bytes-a-ne4.true

pub returns-then-bytes-b-ne4 : goal.returns-then-bytes-b-ne4
returns-then-bytes-b-ne4 c = let args = c.args in
    long-second args.bytes.now args.a args.b c.if-bytes-a-ne4.false c.if-bytes-b-ne4.true

pub returns : goal.returns
returns c = let at_tests = c in
    let args = at_tests.args in
    first_three args.bytes.now args.a args.b at_tests.if-bytes-a-ne4.false at_tests.if-bytes-b-ne4.false c.same_bytes.ensures
