-- `enode_write::enode_size` meets its contract. Assumes nothing.
use mathlib.Core.Path.{◌≡◌}
use native.Mathlib.Omega.{arith}
use lib.ListN.{length}
use Rattle.enode_write.proofs.Lines.{line_length}
use borrow.Author.Rules.{rules}
use Rattle.enode_write.proofs.enode_size.Goals as goal

pub returns : goal.returns
returns c =
    let key_size : length c.args.node.key ≡ 64 = search rules in
    let e = line_length c.args.node c.requires key_size in record { size = omega (arith, e, c.address_size.ensures.size, c.address_size.ensures.few, c.ports_size.ensures.size, c.ports_size.ensures.few); few = omega (arith, c.address_size.ensures.size, c.address_size.ensures.few, c.ports_size.ensures.size, c.ports_size.ensures.few) }
