-- `bucket_rules::ping_sent` meets its contract. Assumes nothing.
use mathlib.Core.Path.{sym, ◌∙◌}
use Rattle.bucket.specs.Steps.{contents}
use Rattle.bucket_lookup.proofs.Laws.{within}
use Rattle.bucket_rules.proofs.ByPosition.{pinged-is, new_is}
use Rattle.bucket_rules.proofs.ping_sent.Goals as goal

pub put_at-requires : goal.put_at-requires
put_at-requires c = let start = c in
    let ready = start.requires.0.0 in
    (ready.bounded, rw start.requires.0.1.position (within start.args.key.now (contents start.args.b) ready.keys))

pub returns-then-held : goal.returns-then-held
returns-then-held c = let start = c in
    let args = start.args in
    rw (
      pinged-is args.key.now (contents args.b) args.l args.clock.0 start.requires.0.0.keys start.requires.0.1 args.address.now args.hash.now args.udp args.tcp
          (sym c.is_held-held.ensures ∙ c.if-held.true),
      ← c.pinged.ensures,
    )
    c.put_at.ensures

pub returns : goal.returns
returns c = let start = c in
    let args = start.args in
    rw (
      new_is args.key.now (contents args.b) args.l args.clock.0 start.requires.0.0.keys start.requires.0.1 args.address.now args.hash.now args.udp args.tcp
          (sym c.is_held-held.ensures ∙ c.if-held.false),
      ← c.new_entry.ensures,
    )
    c.join_line.ensures
