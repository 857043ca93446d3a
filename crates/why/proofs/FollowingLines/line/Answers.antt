-- The line was noted.
use Rattle.std.proofs.Common.{refl, sym}
use borrow.Author.Tests.{ltb-true}
use Rattle.log_lines.specs.Lines.{whole}
use Rattle.why.proofs.Ready.{after_line}
use Rattle.why.proofs.FollowingLines.line.Goals as goal

pub returns : goal.returns
returns g c =
    record {
      ready = after_line (whole c.args.line.now) c.requires.begins (ltb-true _ _ (sym c.if-not-is_counted.ensures)) c.note_line-self.ensures c.note_line-self.auto.memory;
      same = refl;
    }
