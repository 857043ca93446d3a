-- `bucket_times::proof_expired` meets its contract. Assumes nothing.
use mathlib.Core.Path.{sym, ap, ◌∙◌}
use lib.Dec.{ltb}
use Rattle.bucket_model.specs.Rules.{proof_expired}
use Rattle.bucket_times.proofs.proof_expired.Goals as goal

pub returns-in-At : goal.returns-in-At
returns-in-At c = ap (λ n. ltb 43200000 n) c.since.ensures ∙ sym (ap (proof_expired c.args.clock.0) c.in-At.is)
