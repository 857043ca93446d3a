-- What a datagram reads as, for the rules of the table: the tests of the crates packet_envelope and packet_datagram in the order of their answer numbers.
use Rattle.std.specs.Prelude.{ℕ, cond, eqb}
use Rattle.octets.specs.Octets.{Bytes}
use Rattle.packet_span.specs.Parts.{bytes_of}
use Rattle.packet.specs.declared.Packet.{Packet}
use Rattle.packet.specs.declared.Packet.TheVariants.{Ping, Pong, FindNode, Neighbors, EnrRequest, EnrResponse}
use Rattle.packet.specs.declared.Parsed.{Parsed}
use Rattle.packet.specs.declared.Parsed.TheVariants as parsed
use Rattle.packet_envelope.specs.Envelope.{is_sized, hash_matches}
use Rattle.packet_datagram.specs.Datagram.{read_at}
use Rattle.call_history.specs.Model.{Fault, wrong_length, wrong_hash, unknown_type, bad_list, bad_field, expired, Reading, refused, ping, pong, other}

-- the fault behind an answer number from 8 to 11
abbrev pub fault_of : ℕ → Fault
fault_of n = cond (eqb n 8) unknown_type (cond (eqb n 9) bad_list (cond (eqb n 10) bad_field expired))

-- a packet of the datagram g
abbrev pub packet_reading : Bytes → Packet → Reading
packet_reading g (Ping p) = ping
packet_reading g (Pong p) = pong (bytes_of g p.ping_hash)
packet_reading g (FindNode p) = other
packet_reading g (Neighbors p) = other
packet_reading g (EnrRequest p) = other
packet_reading g (EnrResponse p) = other

-- what was read of the datagram g
abbrev pub parsed_reading : Bytes → Parsed → Reading
parsed_reading g (parsed.Packet p) = packet_reading g p
parsed_reading g (parsed.Refused n) = refused (fault_of n)

-- the datagram g at a Unix time
unfoldable pub reading : Bytes → ℕ → Reading
reading g unix =
    cond (is_sized g)
    (cond (hash_matches g) (parsed_reading g (read_at g (record { 0 = unix }))) (refused wrong_hash))
    (refused wrong_length)
