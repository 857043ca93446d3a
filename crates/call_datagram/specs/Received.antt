-- What a datagram call answers on a table's bytes.
use Rattle.std.specs.Prelude.{ℕ}
use Rattle.octets.specs.Octets.{Bytes}
use Rattle.bucket_model.specs.Contents.{Contents}
use Rattle.packet.specs.declared.Parsed.{Parsed}
use Rattle.packet.specs.declared.Parsed.TheVariants as parsed
use Rattle.packet_datagram.specs.Datagram.{read_at}
use Rattle.call_history.specs.Model.{datagram}
use Rattle.call_model.specs.Calls.{bucket_for, answer_on}
use Rattle.call_model.specs.Reading.{reading}
use Rattle.call_answer.specs.declared.Received.{Received}
use Rattle.call_answer.specs.Answer.{refusal, accepted, unless_refused}

-- the answer to what was read, with the bucket as it was given
abbrev pub answer_to : ℕ → Bytes → ℕ → Bytes → Parsed → Contents → Received
answer_to now address udp key (parsed.Packet p) b = accepted now address udp key p b
answer_to now address udp key (parsed.Refused n) b = refusal n

-- the answer to a datagram on a table's bytes
unfoldable pub received : Bytes → ℕ → ℕ → Bytes → ℕ → Bytes → Bytes → Received
received s now unix address udp key g =
    unless_refused (answer_on reading s (datagram now unix address udp key g))
    (answer_to now address udp key (read_at g (record { 0 = unix })) (bucket_for reading s key))
