-- `bucket_sound::may_stand` meets its contract. Assumes nothing.
use Rattle.bucket_sound.proofs.Steps.{proved_stands, unproved_stands}
use Rattle.bucket_sound.proofs.may_stand.Goals as goal

pub returns-then-proof-eq0 : goal.returns-then-proof-eq0
returns-then-proof-eq0 c = let args = c.args in
    unproved_stands args.proof args.ping args.proved args.unproved c.if-proof-eq0.true c.both.ensures

pub returns : goal.returns
returns c = let args = c.args in
    proved_stands args.proof args.ping args.proved args.unproved c.if-proof-eq0.false
