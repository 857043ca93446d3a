-- `bucket_rules::Lookup::ping_due` meets its contract. Assumes nothing.
use mathlib.Core.Path.{ap}
use mathlib.Core.Bool.{not, ◌&&◌}
use Rattle.bucket_entry.proofs.Laws.{joined}
use Rattle.bucket_model.specs.Rules.{is_at, is_verified, is_out}
use Rattle.bucket_lookup.proofs.Laws.{held_or, held_and}
use Rattle.bucket_lookup.proofs.Lookup.ping_due.Goals as goal

pub returns-then-not-held : goal.returns-then-not-held
returns-then-not-held c = held_or (λ e. is_at c.args.address.now c.args.udp e && (not (is_verified c.args.clock.0 c.args.address.now c.args.udp e) && not (is_out e.ping))) c.args.self c.is_held-held.ensures (ap not c.if-not-held.true)

pub returns : goal.returns
returns c =
    let due = joined c.both-open.ensures (ap not c.is_verified-verified.ensures) (ap not c.is_out.ensures) in
    held_and (λ e. is_at c.args.address.now c.args.udp e && (not (is_verified c.args.clock.0 c.args.address.now c.args.udp e) && not (is_out e.ping))) c.args.self c.is_held-held.ensures (ap not c.if-not-held.false)
    (joined c.both.ensures c.is_at.ensures due)
