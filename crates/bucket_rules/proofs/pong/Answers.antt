-- `bucket_rules::pong` meets its contract. Assumes nothing.
use Rattle.bucket.specs.Steps.{contents}
use Rattle.bucket_lookup.proofs.Laws.{within}
use Rattle.bucket_rules.proofs.ByPosition.{pong-is}
use Rattle.bucket_rules.proofs.pong.Goals as goal

pub promote_at-requires : goal.promote_at-requires
promote_at-requires c = let start = c in
    (start.requires.0.bounded, rw start.requires.1.position (within start.args.key.now (contents start.args.b) start.requires.0.keys))

pub returns : goal.returns
returns c = let start = c in
    let args = start.args in
    rw (pong-is args.key.now (contents args.b) args.l args.clock.0 start.requires.0.keys start.requires.1, ← c.ponged.ensures)
    c.promote_at.ensures
