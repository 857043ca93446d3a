-- `bucket_rules::head` meets its contract. Assumes nothing.
use mathlib.Core.Path.{sym}
use lib.Seq.{get_or-take}
use Rattle.bucket_rules.proofs.head.Goals as goal

pub returns : goal.returns
returns c = sym (get_or-take _ _ 0 _ c.requires.0)
