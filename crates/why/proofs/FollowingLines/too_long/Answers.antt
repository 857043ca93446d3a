-- The line over the limit was noted.
use Rattle.std.proofs.Common.{refl, sym}
use borrow.Author.Tests.{ltb-true}
use Rattle.log_lines.specs.Lines.{too_long}
use Rattle.why.proofs.Ready.{after_line}
use Rattle.why.proofs.FollowingLines.too_long.Goals as goal

pub returns : goal.returns
returns g c =
    let s = c.args.self.now in
    record {
      ready = after_line too_long c.requires (ltb-true _ _ (sym c.if-not-is_counted.ensures)) (c.note_too_long-self.ensures s.key.now s.memory) refl;
      same = (refl, refl);
    }
