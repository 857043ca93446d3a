-- `call_datagram::refused` meets its contract. Assumes nothing.
use mathlib.Core.Path.{ap}
use Rattle.call_answer.specs.declared.Received.{Received}
use Rattle.call_packet.proofs.refused.Goals as goal

pub returns : goal.returns
returns c = ap (λ (x : Received). record { number = c.args.number; after = c.args.b; answer = x }) c.plain-answer.ensures
