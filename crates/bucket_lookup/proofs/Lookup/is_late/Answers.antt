-- `bucket_rules::Lookup::is_late` meets its contract. Assumes nothing.
use Rattle.bucket_model.specs.Rules.{is_overdue}
use Rattle.bucket_lookup.proofs.Laws.{any_found}
use Rattle.bucket_lookup.proofs.Lookup.is_late.Goals as goal

pub returns : goal.returns
returns c = any_found (λ e. is_overdue c.args.clock.0 e.ping) c.args.self c.is_held-held.ensures c.is_overdue.ensures c.both.ensures
