-- `entry::load_endpoint` meets its contract. Assumes nothing.
use Rattle.entry.proofs.Laws.{decode-endpoint}
use Rattle.entry.proofs.load_endpoint.Goals as goal

pub returns : goal.returns
returns c = let args = c.args in
    cc (decode-endpoint args.bytes.now args.at)
