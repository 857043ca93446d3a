-- `capi::coghammer_reply_start` meets its contract. Assumes nothing.
use mathlib.Core.Path.{ap}
use Rattle.capi.proofs.coghammer_reply_start.Goals as goal

pub returns : goal.returns
returns c = ap (λ x. x.start) c.reply_part-part.ensures
