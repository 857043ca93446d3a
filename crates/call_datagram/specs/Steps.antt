-- Steps of the datagram call: the packet reaches the bucket in a slot, what is answered, and the bytes after it.
use Rattle.std.specs.Prelude.{ℕ, cond, eqb}
use Rattle.octets.specs.Octets.{Bytes}
use Rattle.lists.specs.Lists.{first}
use Rattle.table_model.specs.Layout.{bucket_at}
use Rattle.packet.specs.declared.Packet.{Packet}
use Rattle.call_history.specs.Model.{slot, packet_refusals, on_datagram}
use Rattle.call_model.specs.Calls.{env_of}
use Rattle.call_model.specs.Reading.{reading, packet_reading}
use Rattle.call_touched.specs.Steps.{with_bucket}
use Rattle.call_answer.specs.Answer.{accepted, unless_refused}
use Rattle.call_answer.specs.declared.Received.{Received}

-- 13 to 15, or 0
abbrev pub packet_number : Bytes → ℕ → ℕ → Bytes → ℕ → Bytes → Bytes → Packet → ℕ
packet_number s slot now address udp key g p =
    first (packet_refusals (env_of reading s) now address udp key (packet_reading g p) (bucket_at s slot))

unfoldable pub delivered : Bytes → ℕ → ℕ → Bytes → ℕ → Bytes → Bytes → Packet → Received
delivered s slot now address udp key g p =
    unless_refused (packet_number s slot now address udp key g p) (accepted now address udp key p (bucket_at s slot))

unfoldable pub after_delivery : Bytes → ℕ → ℕ → Bytes → ℕ → Bytes → Bytes → Packet → Bytes
after_delivery s slot now address udp key g p =
    cond (eqb (packet_number s slot now address udp key g p) 0)
    (with_bucket s slot (on_datagram now address udp key (packet_reading g p) (bucket_at s slot)) now)
    s
