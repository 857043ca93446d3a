-- What links a head call to a datagram call: the answer to a waiting pong "names the head seat and whether a ping is out to it".
use Rattle.std.specs.Prelude.{ℕ, ◌≡◌}
use Rattle.octets.specs.Octets.{Bytes, IsBytes}
use Rattle.node.specs.declared.Node.{Node}
use Rattle.entry.specs.declared.PingState.{PingState}
use Rattle.packet.specs.declared.Pong.{Pong}
use Rattle.call_history.specs.Model.{datagram}
use Rattle.call_history.specs.Chain.{IsCall}
use Rattle.call_model.specs.Calls.{bytes_after}
use Rattle.call_model.specs.Reading.{reading}
use Rattle.call_answer.specs.declared.Standing.TheVariants.{Waiting}
use Rattle.call_answer.specs.declared.Outcome.TheVariants as outcome
use Rattle.call_answer.specs.declared.Received.{Received}
use Rattle.call_datagram.specs.Received.{received}
use Rattle.call_key.specs.Head.{head_node, head_on}

-- the answer to the pong p of a node that stays in line
abbrev pub waiting_pong : Pong → Node → PingState → Received
waiting_pong p head ping = record { outcome = outcome.Pong p (Waiting ping); head = head }

-- a head call with the sender's key, on the bytes that such a pong leaves, gives 0 and what the answer named
abbrev pub HeadNamed : Type 0
HeadNamed =
    (s : Bytes) (now unix : ℕ) (address : Bytes) (udp : ℕ) (key g : Bytes) → IsBytes s → IsCall (datagram now unix address udp key g)
    → (p : Pong) (head : Node) (ping : PingState) → received s now unix address udp key g ≡ waiting_pong p head ping
    → head_on (bytes_after reading s (datagram now unix address udp key g)) key ≡ head_node head ping
