-- `enode_write_list::write_enodes` meets its contract. Assumes nothing.
use mathlib.Core.Path.{sym, ◌∙◌}
use native.Mathlib.Omega.{arith}
use borrow.Author.Tests.{leb-true, leb-false}
use Rattle.written.proofs.Answers.{done, short, refused}
use Rattle.enode.specs.Lists.{can_boot, boot_text}
use Rattle.enode_write_list.proofs.write_enodes.Goals as goal

pub returns-then-not-all_writable : goal.returns-then-not-all_writable
returns-then-not-all_writable c = let a = c.args in
    refused (can_boot a.nodes.now) (boot_text a.nodes.now) a.buf.now (sym c.all_writable.ensures ∙ c.if-not-all_writable.true)

pub returns-then-not-lines_fit : goal.returns-then-not-lines_fit
returns-then-not-lines_fit c = let a = c.args in
    short (can_boot a.nodes.now) (boot_text a.nodes.now) a.buf.now (sym c.all_writable.ensures ∙ c.if-not-all_writable.false)
    (leb-false _ _ (sym c.lines_fit.ensures ∙ c.if-not-lines_fit.true))

pub returns : goal.returns
returns c = let a = c.args in
    done (can_boot a.nodes.now) (boot_text a.nodes.now) a.buf.now (sym c.all_writable.ensures ∙ c.if-not-all_writable.false)
    (leb-true _ _ (sym c.lines_fit.ensures ∙ c.if-not-lines_fit.false))
    (omega (arith, c.put_lines.ensures.next), c.put_lines.ensures.bytes)
