-- `bucket_entry::new_entry` meets its contract. Assumes nothing.
use Rattle.bucket_entry.proofs.Laws.{entry_made}
use Rattle.bucket_entry.proofs.new_entry.Goals as goal

pub returns : goal.returns
returns c = let at_get_bytes = c in
    let start = at_get_bytes in
    let args = start.args in
    entry_made args.key.now args.address.now args.hash.now args.udp args.tcp args.clock start.requires.0 start.requires.1.1
    at_get_bytes.get_bytes.ensures c.get_bytes-2.ensures c.endpoint_of-endpoint.ensures
