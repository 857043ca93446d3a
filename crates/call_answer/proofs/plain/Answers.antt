-- `call_answer::plain` meets its contract. Assumes nothing.
use mathlib.Core.Path.{ap}
use Rattle.node.specs.declared.Node.{Node}
use Rattle.call_answer.proofs.plain.Goals as goal

pub returns : goal.returns
returns c = ap (λ (n : Node). record { outcome = c.args.outcome; head = n }) c.no_node-head.ensures
