-- `entry::store_stamp` meets its contract. Assumes nothing.
use Rattle.entry.proofs.Laws.{store-stamp}
use Rattle.entry.proofs.store_stamp.Goals as goal

pub returns : goal.returns
returns c = let args = c.args in
    cc (store-stamp args.bytes.now args.at args.s)
