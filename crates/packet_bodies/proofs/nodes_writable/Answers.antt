-- `packet_bodies::nodes_writable` meets its contract. Assumes nothing.
use Rattle.std.proofs.Common.{rules, tests}
use Rattle.std.proofs.lemmas.Iterator.{YieldsList-from_slice}
use Rattle.std.proofs.lemmas.Iterator.Search.{all_from_yields_List}
use Rattle.node.specs.Nodes.{is_address_size}
use Rattle.packet_bodies.specs.Parts.{nodes_in}
use Rattle.packet_bodies.proofs.Nodes.{writable_by}
use Rattle.packet_bodies.proofs.nodes_writable.Goals as goal

pub returns-then-list-le12 : goal.returns-then-list-le12
returns-then-list-le12 c =
    let list = c.args.list in
    writable_by list c.if-list-le12.true
    (all_from_yields_List (λ n. is_address_size n.endpoint.len) _ _ c.all.result c.all.ensures.ran (YieldsList-from_slice (nodes_in list) (cc)) (λ x b q k. search (rules, tests)))
