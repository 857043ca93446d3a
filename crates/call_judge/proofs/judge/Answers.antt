-- `call_judge::judge` meets its contract. Assumes nothing.
use mathlib.Core.Path.{refl}
use Rattle.call_judge.proofs.judge.Goals as goal

pub judge_at-requires : goal.judge_at-requires
judge_at-requires c = rw c.in-At.is at c.requires

pub returns-in-Unsound : goal.returns-in-Unsound
returns-in-Unsound c = rw c.in-Unsound.is refl

pub returns-in-At : goal.returns-in-At
returns-in-At c = rw c.in-At.is c.judge_at.ensures
