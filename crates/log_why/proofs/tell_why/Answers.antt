-- `log_why::tell_why` meets its contract. Assumes nothing.
use mathlib.Core.Path.{sym, ◌∙◌}
use Rattle.log_reason.proofs.Keys.{told_wrong, told_key}
use Rattle.log_why.proofs.tell_why.Goals as goal

pub returns-then-not-is_key_text : goal.returns-then-not-is_key_text
returns-then-not-is_key_text c = let a = c.args in told_wrong a.log.now a.digits.now (sym c.is_key_text.ensures ∙ c.if-not-is_key_text.true)

pub key_of-key-requires : goal.key_of-key-requires
key_of-key-requires c = sym c.is_key_text.ensures ∙ c.if-not-is_key_text.false

pub returns : goal.returns
returns c = let a = c.args in
    told_key a.log.now a.digits.now (sym c.is_key_text.ensures ∙ c.if-not-is_key_text.false) c.key_of-key.ensures c.reason_over.ensures
