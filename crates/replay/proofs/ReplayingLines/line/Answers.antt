-- The program stays ready after a line.
use borrow.Rule.Slice.PartMut.{same_len_mid}
use Rattle.log_lines.specs.Lines.{whole}
use Rattle.replay.proofs.Ready.{after_line}
use Rattle.replay.proofs.ReplayingLines.line.Goals as goal

pub returns : goal.returns
returns g c =
    let s = c.args.self.now in
    let at = c.make_room-room.result.at in
    after_line (whole c.args.line.now) c.requires.begins c.step-stepped.ensures _ at c.make_room-room.ensures (same_len_mid at _ s.out _ c.step-stepped.auto.out)
