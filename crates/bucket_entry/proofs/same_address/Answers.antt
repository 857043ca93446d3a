-- `bucket_entry::same_address` meets its contract. Assumes nothing.
use mathlib.Core.Path.{◌≡◌}
use lib.ListN.{length}
use Rattle.bucket_entry.proofs.Laws.{whole_address}
use borrow.Author.Rules.{rules}
use Rattle.bucket_entry.proofs.same_address.Goals as goal

pub returns : goal.returns
returns c =
    let size : length c.args.e.address ≡ 16 = search rules in
    whole_address c.args.e c.args.address.now size c.if-len-lt16.false c.same_bytes-2.ensures
