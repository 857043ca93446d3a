-- `bucket_rules::Lookup::no_room` meets its contract. Assumes nothing.
use lib.Dec.{leb}
use Rattle.bucket_lookup.proofs.Laws.{room}
use Rattle.bucket_lookup.proofs.Lookup.no_room.Goals as goal

pub returns : goal.returns
returns c = room c.args.self (leb 4 c.args.replacements) c.is_held-held.ensures c.both.ensures
