-- `bucket_entry::endpoint_of` meets its contract. Assumes nothing.
use Rattle.bucket_entry.proofs.Laws.{endpoint_made}
use Rattle.bucket_entry.proofs.endpoint_of.Goals as goal

pub returns : goal.returns
returns c = let start = c in
    let args = start.args in
    endpoint_made args.address.now args.udp args.tcp start.requires c.put_bytes.ensures
