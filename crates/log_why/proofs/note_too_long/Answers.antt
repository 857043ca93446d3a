-- `log_why::note_too_long` meets its contract. Assumes nothing.
use Rattle.log_why.proofs.Noted.{noted_long}
use Rattle.log_why.proofs.note_too_long.Goals as goal

pub returns : goal.returns
returns c = λ key memory. noted_long key c.args.at memory c.requires.0 c.idle.ensures c.trail_after-trail.ensures
