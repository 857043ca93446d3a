-- `bucket_rules::heard` meets its contract. Assumes nothing.
use Rattle.bucket.specs.Steps.{contents}
use Rattle.bucket_lookup.proofs.Laws.{within}
use Rattle.bucket_rules.proofs.ByPosition.{heard-is}
use Rattle.bucket_rules.proofs.heard.Goals as goal

pub tail_at-requires : goal.tail_at-requires
tail_at-requires c = let start = c in
    (start.requires.0.bounded, rw start.requires.1.position (within start.args.key.now (contents start.args.b) start.requires.0.keys))

pub returns : goal.returns
returns c = let start = c in
    let args = start.args in
    rw (heard-is args.key.now (contents args.b) args.l args.clock.0 start.requires.0.keys start.requires.1, ← c.heard.ensures)
    c.tail_at.ensures
