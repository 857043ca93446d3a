-- `capi::coghammer_reply_len` meets its contract. Assumes nothing.
use mathlib.Core.Path.{ap}
use Rattle.capi.proofs.coghammer_reply_len.Goals as goal

pub returns : goal.returns
returns c = ap (λ x. x.len) c.reply_part-part.ensures
