-- `bucket_range::range_full` meets its contract. Assumes nothing.
use mathlib.Core.Path.{ap}
use lib.Dec.{leb}
use Rattle.bucket_model.specs.Rules.{max_of_range}
use Rattle.bucket_range.proofs.range_full.Goals as goal

pub returns : goal.returns
returns c = ap (leb max_of_range) c.range_count.ensures
