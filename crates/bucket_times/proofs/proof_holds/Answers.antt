-- `bucket_times::proof_holds` meets its contract. Assumes nothing.
use mathlib.Core.Path.{sym, ap, ◌∙◌}
use lib.Dec.{leb}
use Rattle.bucket_model.specs.Rules.{proof_holds}
use Rattle.bucket_times.proofs.proof_holds.Goals as goal

pub returns-in-At : goal.returns-in-At
returns-in-At c = ap (λ n. leb n 43200000) c.since.ensures ∙ sym (ap (proof_holds c.args.clock.0) c.in-At.is)
