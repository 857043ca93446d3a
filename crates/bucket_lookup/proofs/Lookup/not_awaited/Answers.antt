-- `bucket_rules::Lookup::not_awaited` meets its contract. Assumes nothing.
use mathlib.Core.Path.{ap}
use mathlib.Core.Bool.{not}
use Rattle.bucket_model.specs.Rules.{is_awaited}
use Rattle.bucket_lookup.proofs.Laws.{any_found}
use Rattle.bucket_lookup.proofs.Lookup.not_awaited.Goals as goal

pub returns : goal.returns
returns c = ap not (any_found (is_awaited c.args.hash.now c.args.address.now c.args.udp) c.args.self c.is_held-held.ensures c.is_awaited.ensures c.both.ensures)
