-- `bucket_rules::Lookup::range_full` meets its contract. Assumes nothing.
use Rattle.bucket_model.specs.Rules.{range_full}
use Rattle.bucket.specs.Steps.{listed}
use Rattle.bucket_lookup.proofs.Laws.{any_found}
use Rattle.bucket_lookup.proofs.Lookup.range_full.Goals as goal

pub returns : goal.returns
returns c = let args = c.args in
    any_found (λ e. range_full (listed args.entries) e.endpoint) args.self c.is_held-held.ensures c.range_full.ensures c.both.ensures
