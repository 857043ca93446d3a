-- `bucket_range::may_take` meets its contract. Assumes nothing.
use mathlib.Core.Path.{◌≡◌}
use lib.ListN.{length}
use borrow.Author.Tests.{lt-ltb, le-ltb}
use Rattle.bucket.proofs.Laws.{length_mapped}
use Rattle.bucket_range.proofs.Laws.{may_free, may-full}
use borrow.Author.Rules.{rules}
use Rattle.bucket_range.proofs.may_take.Goals as goal

pub returns-then-l-lt-ENTRIES : goal.returns-then-l-lt-ENTRIES
returns-then-l-lt-ENTRIES c =
    let items_size : length c.args.l.items ≡ 16 = search (rules, length_mapped) in
    let start = c in
    may_free start.args.l items_size start.requires start.args.a (lt-ltb start.args.l.len 16 c.if-l-lt-ENTRIES.true) c.range_full.ensures

pub returns : goal.returns
returns c =
    let items_size : length c.args.l.items ≡ 16 = search (rules, length_mapped) in
    let start = c in
    may-full start.args.l items_size start.requires start.args.a (le-ltb start.args.l.len 16 c.if-l-lt-ENTRIES.false)
