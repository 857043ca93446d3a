-- `distance::in_bucket` meets its contract. Assumes nothing.
use mathlib.Core.Path.{ap, ◌∙◌}
use Rattle.distance.specs.Distance.{distance, in_bucket, home}
use Rattle.distance.proofs.in_bucket.Goals as goal

pub returns : goal.returns
unfolding home
returns c = let at_keccak256 = c in
    let args = at_keccak256.args in
    c.falls_in.ensures ∙ ap (λ l. in_bucket args.i (distance args.own.now l)) at_keccak256.keccak256-hash.ensures
