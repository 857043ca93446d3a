-- `bucket_rules::look_up` meets its contract. Assumes nothing.
use Rattle.bucket_lookup.proofs.Laws.{within, looked_up}
use Rattle.bucket.specs.Steps.{contents}
use Rattle.bucket_lookup.proofs.look_up.Goals as goal

pub entry_at-entry-requires : goal.entry_at-entry-requires
entry_at-entry-requires c = let start = c in
    (start.requires.bounded, rw c.find-position.ensures (within start.args.key.now (contents start.args.b) start.requires.keys))

pub returns : goal.returns
returns c = let start = c in
    looked_up start.args.key.now (contents start.args.b) _ start.requires.keys c.find-position.ensures c.entry_at-entry.ensures
