-- `bucket_range::is_promoted_at` meets its contract. Assumes nothing.
use Rattle.bucket_range.proofs.OnBytes.{unproved, no_room, by-range}
use Rattle.bucket_range.proofs.is_promoted_at.Goals as goal

pub returns-then-bytes-a-eq0 : goal.returns-then-bytes-a-eq0
returns-then-bytes-a-eq0 c = let args = c.args in
    unproved args.bytes.now args.a args.at args.n c.if-bytes-a-eq0.true

pub returns-then-n-ge-ENTRIES : goal.returns-then-n-ge-ENTRIES
returns-then-n-ge-ENTRIES c = let args = c.args in
    no_room args.bytes.now args.a args.at args.n c.if-bytes-a-eq0.false c.if-n-ge-ENTRIES.true

pub returns : goal.returns
returns c = let args = c.args in
    by-range args.bytes.now args.a args.at args.n c.if-bytes-a-eq0.false c.if-n-ge-ENTRIES.false c.range_count_at.ensures
