-- `enode::read_enode` meets its contract. Assumes nothing.
use mathlib.Core.Path.{sym, ◌∙◌}
use Rattle.enode.specs.Reading.{enode_of}
use Rattle.enode.proofs.Reading.{keyed_long}
use Rattle.enode.proofs.read_enode.Goals as goal

pub read_keyed-requires : goal.read_keyed-requires
read_keyed-requires c = let k = c.is_keyed in
    keyed_long c.args.line.now (sym k.ensures ∙ c.if-is_keyed.true)

pub returns-then-is_keyed : goal.returns-then-is_keyed
unfolding enode_of
returns-then-is_keyed c = let k = c.is_keyed in
    c.read_keyed.ensures ∙ sym (rw (sym k.ensures ∙ c.if-is_keyed.true))

pub returns-else-is_keyed : goal.returns-else-is_keyed
unfolding enode_of
returns-else-is_keyed c = let k = c.is_keyed in
    sym (rw (sym k.ensures ∙ c.if-is_keyed.false))
