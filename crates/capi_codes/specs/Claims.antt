-- What is claimed of codes.
use Rattle.std.specs.Prelude.{ℕ, ◌≡◌}
use Rattle.octets.specs.Octets.{Bytes}
use Rattle.call_history.specs.Model.{datagram}
use Rattle.call_model.specs.Calls.{answer_on}
use Rattle.call_model.specs.Reading.{reading}
use Rattle.call_datagram.specs.Received.{received}
use Rattle.capi_codes.specs.Codes.{number_in, received_code}

-- the number in a datagram's code is the call's, so that is what `coghammer_datagram` counts
abbrev pub CodeNumber : Type 0
CodeNumber =
    (s : Bytes) (now unix : ℕ) (address : Bytes) (udp : ℕ) (key g : Bytes)
    → number_in (received_code (received s now unix address udp key g)) ≡ answer_on reading s (datagram now unix address udp key g)
