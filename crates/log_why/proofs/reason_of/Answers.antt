-- `log_why::reason_of` meets its contract. Assumes nothing.
use mathlib.Core.Path.{refl}
use Rattle.log_why.proofs.reason_of.Goals as goal

pub returns-then-trail : goal.returns-then-trail
returns-then-trail c = rw (c.in-NotYet.is, c.if-trail.true) refl

pub returns-in-SeatedAt : goal.returns-in-SeatedAt
returns-in-SeatedAt c = rw c.in-SeatedAt.is refl

pub returns-in-WaitingSince : goal.returns-in-WaitingSince
returns-in-WaitingSince c = rw c.in-WaitingSince.is refl

pub returns-in-PingLost : goal.returns-in-PingLost
returns-in-PingLost c = rw c.in-PingLost.is refl

pub returns-in-ProofLost : goal.returns-in-ProofLost
returns-in-ProofLost c = rw c.in-ProofLost.is refl
