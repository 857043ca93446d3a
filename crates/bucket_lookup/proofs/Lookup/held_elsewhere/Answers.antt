-- `bucket_rules::Lookup::held_elsewhere` meets its contract. Assumes nothing.
use mathlib.Core.Path.{ap}
use mathlib.Core.Bool.{not}
use Rattle.bucket_model.specs.Rules.{is_at}
use Rattle.bucket_lookup.proofs.Laws.{any_found}
use Rattle.bucket_lookup.proofs.Lookup.held_elsewhere.Goals as goal

pub returns : goal.returns
returns c = any_found (λ e. not (is_at c.args.address.now c.args.udp e)) c.args.self c.is_held-held.ensures (ap not c.is_at.ensures) c.both.ensures
