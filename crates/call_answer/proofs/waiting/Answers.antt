-- `call_answer::waiting` meets its contract. Assumes nothing.
use mathlib.Core.Path.{ap}
use Rattle.node.specs.declared.Node.{Node}
use Rattle.call_answer.specs.declared.Standing.TheVariants.{Waiting}
use Rattle.call_answer.specs.declared.Outcome.TheVariants.{Pong}
use Rattle.call_answer.proofs.waiting.Goals as goal

pub returns : goal.returns
returns c = ap (λ (n : Node). record { outcome = Pong c.args.p (Waiting c.args.e.ping); head = n }) c.node_of-head.ensures
