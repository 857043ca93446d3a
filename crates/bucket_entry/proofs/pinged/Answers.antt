-- `bucket_entry::pinged` meets its contract. Assumes nothing.
use Rattle.bucket_entry.proofs.Laws.{pinged_made}
use Rattle.bucket_entry.proofs.pinged.Goals as goal

pub returns : goal.returns
returns c = let start = c in
    let args = start.args in
    pinged_made args.e args.hash.now args.clock start.requires c.get_bytes.ensures
