-- `enode_write::address_size` meets its contract. Assumes nothing.
use mathlib.Core.Path.{◌≡◌}
use native.Mathlib.Omega.{arith}
use lib.ListN.{length}
use Rattle.enode_write.proofs.Lines.{address_length}
use borrow.Author.Rules.{rules}
use Rattle.enode_write.proofs.address_size.Goals as goal

pub returns : goal.returns
returns c =
    let array : length c.args.address ≡ 16 = search rules in
    let e = address_length c.args.address array in record { size = omega (arith, e, c.octet_len-a.ensures.size, c.octet_len-a.ensures.few, c.octet_len-b.ensures.size, c.octet_len-b.ensures.few, c.octet_len-c.ensures.size, c.octet_len-c.ensures.few, c.octet_len-d.ensures.size, c.octet_len-d.ensures.few); few = omega (arith, c.octet_len-a.ensures.size, c.octet_len-a.ensures.few, c.octet_len-b.ensures.size, c.octet_len-b.ensures.few, c.octet_len-c.ensures.size, c.octet_len-c.ensures.few, c.octet_len-d.ensures.size, c.octet_len-d.ensures.few) }
