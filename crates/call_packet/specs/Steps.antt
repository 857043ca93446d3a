-- Steps of the datagram call: a packet that reaches its sender's bucket, by value.
use Rattle.std.specs.Prelude.{ℕ, Bool, List, ◌≡◌}
use Rattle.octets.specs.Octets.{Bytes}
use Rattle.lists.specs.Lists.{first}
use Rattle.packet.specs.declared.Packet.{Packet}
use Rattle.call_history.specs.Model.{Env, packet_refusals, on_datagram}
use Rattle.call_model.specs.Reading.{packet_reading}
use Rattle.bucket_model.specs.Contents.{Contents}
use Rattle.bucket.specs.Steps.{Shows}
use Rattle.call_answer.specs.Answer.{accepted, unless_refused}
use Rattle.call_answer.specs.declared.Received.{Received}
use Rattle.call_packet.specs.declared.Reply.{Reply}

-- the tests refuse, or the bucket gets the contents m and r is answered
pub record Replies (tests : List (Bool × ℕ)) (m : Contents) (r : Received) (reply : Reply) : Type 0 where
  pub number : reply.number ≡ first tests
  pub after : reply.number ≡ 0 → Shows reply.after m
  pub answer : reply.answer ≡ unless_refused reply.number r

-- the reply to the packet p of the datagram g, whose sender's bucket has the contents m
abbrev pub RepliesTo : Env → ℕ → Bytes → ℕ → Bytes → Bytes → Packet → Contents → Reply → Type 0
RepliesTo e now address udp key g p m =
    Replies (packet_refusals e now address udp key (packet_reading g p) m) (on_datagram now address udp key (packet_reading g p) m)
    (accepted now address udp key p m)
