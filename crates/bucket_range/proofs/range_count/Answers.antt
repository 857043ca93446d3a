-- `bucket_range::range_count` meets its contract. Assumes nothing.
use mathlib.Core.Path.{◌≡◌, ◌∙◌}
use borrow.Author.Rules.{rules}
use Rattle.std.specs.List.{count_by}
use Rattle.bucket_model.specs.Rules.{same_range}
use Rattle.bucket.specs.Steps.{listed}
use Rattle.bucket_range.proofs.Laws.{counted_by}
use Rattle.bucket_range.proofs.range_count.Goals as goal

pub returns : goal.returns
returns c =
    let args = c.args in
    let e : c.count.result ≡ count_by (λ e. same_range args.a e.endpoint) (listed args.l) = search rules in
    e ∙ counted_by args.a (listed args.l)
