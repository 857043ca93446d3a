-- `enode_write::write_enode` meets its contract. Assumes nothing.
use mathlib.Core.Path.{sym, ◌∙◌}
use native.Mathlib.Omega.{arith}
use Rattle.written.proofs.Answers.{done, short, refused}
use Rattle.enode.specs.Text.{can_enode, enode_line}
use Rattle.enode_write.proofs.write_enode.Goals as goal

pub enode_size-requires : goal.enode_size-requires
enode_size-requires c = sym c.is_writable.ensures ∙ c.if-not-is_writable.false

pub put_enode-requires : goal.put_enode-requires
put_enode-requires c = (sym c.is_writable.ensures ∙ c.if-not-is_writable.false, omega (arith, c.enode_size.ensures.size, c.enode_size.ensures.few, c.if-buf-enode_size.false))

pub returns : goal.returns
returns c = let a = c.args in
    let whole = done (can_enode a.node) (enode_line a.node) a.buf.now (sym c.is_writable.ensures ∙ c.if-not-is_writable.false)
    (omega (arith, c.enode_size.ensures.size, c.enode_size.ensures.few, c.if-buf-enode_size.false))
    (c.put_enode.ensures.next, c.put_enode.ensures.bytes) in
    record { answer = whole.0; bytes = whole.1 }

pub returns-then-buf-enode_size : goal.returns-then-buf-enode_size
returns-then-buf-enode_size c = let a = c.args in
    let whole = short (can_enode a.node) (enode_line a.node) a.buf.now (sym c.is_writable.ensures ∙ c.if-not-is_writable.false)
    (omega (arith, c.enode_size.ensures.size, c.enode_size.ensures.few, c.if-buf-enode_size.true)) in
    record { answer = whole.0; bytes = whole.1 }

pub returns-then-not-is_writable : goal.returns-then-not-is_writable
returns-then-not-is_writable c = let a = c.args in
    let whole = refused (can_enode a.node) (enode_line a.node) a.buf.now (sym c.is_writable.ensures ∙ c.if-not-is_writable.true) in
    record { answer = whole.0; bytes = whole.1 }
