-- `entry::load_stamp` meets its contract. Assumes nothing.
use Rattle.entry.proofs.Laws.{decode-stamp}
use Rattle.entry.proofs.load_stamp.Goals as goal

pub returns : goal.returns
returns c = let args = c.args in
    cc (decode-stamp args.bytes.now args.at)
