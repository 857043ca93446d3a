-- `bucket_sound::at_home` meets its contract. Assumes nothing.
use mathlib.Core.Path.{◌∙◌}
use Rattle.bucket_sound.proofs.at_home.Goals as goal

pub returns-then-tested : goal.returns-then-tested
returns-then-tested c = c.in_bucket.ensures ∙ simp c.if-tested.true
