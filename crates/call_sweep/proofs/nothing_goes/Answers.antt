-- `call_sweep::nothing_goes` meets its contract. Assumes nothing.
use Rattle.call_sweep.proofs.OneBucket.{goes_parts}
use Rattle.call_sweep.proofs.nothing_goes.Goals as goal

pub returns : goal.returns
returns c = let start = c in
    goes_parts start.args.bytes.now start.args.at start.args.time.0 start.requires.0 start.requires.1.0 start.requires.1.1
    c.all_stay.ensures c.all_stay-2.ensures c.both.ensures
