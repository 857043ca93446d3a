-- `log_reason::is_key_text` meets its contract. Assumes nothing.
use borrow.Author.Tests.{eq-eqb, ne_eqb}
use lib.ListN.{length}
use Rattle.log_reason.specs.Row.{is_key_text}
use Rattle.log_reason.proofs.is_key_text.Goals as goal

pub returns-then-digits-eq128 : goal.returns-then-digits-eq128
unfolding is_key_text
returns-then-digits-eq128 c = rw (eq-eqb (length c.args.digits.now) 128 c.if-digits-eq128.true) c.is_hex.ensures

pub returns-else-digits-eq128 : goal.returns-else-digits-eq128
unfolding is_key_text
returns-else-digits-eq128 c = rw (ne_eqb (length c.args.digits.now) 128 c.if-digits-eq128.false)
