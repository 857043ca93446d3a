-- `bucket_rules::Lookup::ping_out` meets its contract. Assumes nothing.
use Rattle.bucket_model.specs.Rules.{is_out}
use Rattle.bucket_lookup.proofs.Laws.{any_found}
use Rattle.bucket_lookup.proofs.Lookup.ping_out.Goals as goal

pub returns : goal.returns
returns c = any_found (λ e. is_out e.ping) c.args.self c.is_held-held.ensures c.is_out.ensures c.both.ensures
