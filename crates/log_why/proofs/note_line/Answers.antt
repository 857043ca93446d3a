-- `log_why::note_line` meets its contract. Assumes nothing.
use native.Mathlib.Omega.{arith}
use Rattle.log_lines.specs.Lines.{whole}
use Rattle.log_replay.specs.Replay.{line as reached-line}
use Rattle.log_why.proofs.Noted.{noted}
use Rattle.log_why.proofs.note_line.Goals as goal

pub place_after-after-requires : goal.place_after-after-requires
place_after-after-requires c = let a = c.act-taken in
    (omega (arith, a.auto.memory, c.requires.big), (a.ensures.count, rw a.ensures.state (reached-line c.requires.reached (whole c.args.line.now))))

pub trail_after-trail-requires : goal.trail_after-trail-requires
trail_after-trail-requires c = c.requires.lines

pub returns : goal.returns
returns c = let a = c.args in
    noted a.key.now a.at (whole a.line.now) a.memory.now c.act-taken.ensures c.place_after-after.ensures.there c.place_after-after.ensures.same c.trail_after-trail.ensures
