-- `capi::coghammer_write_enr_response` meets its contract. Assumes nothing.
use mathlib.Core.Path.{ap, ◌∙◌}
use native.Mathlib.Omega.{arith}
use Rattle.octets.proofs.Laws.{slice}
use Rattle.packet_bodies.specs.Writers.{can_enr_response, enr_response_body}
use Rattle.packet_laws.specs.Bodies.{enr_response}
use Rattle.capi_codes.proofs.Sizes.{body-fits}
use Rattle.capi_codes.specs.Codes.{written_code}
use Rattle.capi.proofs.coghammer_write_enr_response.Goals as goal

pub written_code-requires : goal.written_code-requires
written_code-requires c = let a = c.args in
    body-fits (can_enr_response a.request_hash.now a.«record».now) (enr_response_body a.request_hash.now a.«record».now) a.buf.now c.write_enr_response.ensures.answer
    (λ ok. enr_response a.request_hash.now a.«record».now (slice a.«record».now c.shared_slice_known-2-1.given (omega arith)) ok)

pub returns : goal.returns
returns c = let w = c.write_enr_response.ensures in record { answer = c.written_code.ensures ∙ ap written_code w.answer; bytes = w.bytes }
