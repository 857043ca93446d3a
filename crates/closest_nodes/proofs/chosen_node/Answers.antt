-- `closest_nodes::chosen_node` meets its contract. Assumes nothing.
use Rattle.closest_nodes.proofs.chosen_node.Goals as goal

pub returns : goal.returns
returns c = c.node_in.ensures
