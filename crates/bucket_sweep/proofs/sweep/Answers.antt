-- `bucket_rules::sweep` meets its contract. Assumes nothing.
use Rattle.bucket_sweep.proofs.Laws.{swept}
use Rattle.bucket_sweep.proofs.sweep.Goals as goal

pub returns : goal.returns
returns c = let at_kept_2 = c in
    let at_kept = at_kept_2 in
    let args = at_kept.args in
    swept args.clock.0 args.b c.promote_all.result at_kept.kept-entries.result at_kept_2.kept-line.result
    at_kept.kept-entries.ensures at_kept_2.kept-line.ensures c.promote_all.ensures
