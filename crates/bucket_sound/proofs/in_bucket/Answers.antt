-- `bucket_sound::in_bucket` meets its contract. Assumes nothing.
use mathlib.Core.Path.{ap, ◌∙◌}
use Rattle.distance.specs.Distance.{home}
use Rattle.bucket_sound.proofs.Steps.{lent}
use Rattle.bucket_sound.proofs.in_bucket.Goals as goal

pub returns : goal.returns
returns c = let args = c.args in
    c.in_bucket.ensures ∙ ap (λ k. home args.own.now args.number k) (lent args.bytes.now args.at 64)
