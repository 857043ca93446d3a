-- `bucket_sound::same_key` meets its contract. Assumes nothing.
use Rattle.bucket_sound.proofs.Steps.{lent_both}
use Rattle.bucket_sound.proofs.same_key.Goals as goal

pub returns : goal.returns
returns c = let args = c.args in
    lent_both args.bytes.now args.a args.b c.same_bytes.ensures
