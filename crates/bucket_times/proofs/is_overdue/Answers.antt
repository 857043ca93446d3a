-- `bucket_times::is_overdue` meets its contract. Assumes nothing.
use mathlib.Core.Path.{sym, ap, ◌∙◌}
use lib.Dec.{ltb}
use Rattle.bucket_model.specs.Rules.{is_overdue, ping_timeout}
use Rattle.bucket_times.proofs.is_overdue.Goals as goal

pub returns-in-Out : goal.returns-in-Out
returns-in-Out c = ap (λ n. ltb ping_timeout n) c.since.ensures ∙ sym (ap (is_overdue c.args.clock.0) c.in-Out.is)
