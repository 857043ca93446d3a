-- `capi::coghammer_write_enr_request` meets its contract. Assumes nothing.
use mathlib.Core.Path.{ap, ◌∙◌}
use mathlib.Core.Bool.{true}
use native.Mathlib.Omega.{arith}
use Rattle.packet_bodies.specs.Writers.{enr_request_body}
use Rattle.packet_laws.specs.Bodies.{enr_request}
use Rattle.capi_codes.proofs.Sizes.{body-fits}
use Rattle.capi_codes.specs.Codes.{written_code}
use Rattle.capi.proofs.coghammer_write_enr_request.Goals as goal

pub written_code-requires : goal.written_code-requires
written_code-requires c = let a = c.args in
    body-fits true (enr_request_body a.expiration) a.buf.now c.write_enr_request.ensures.answer (λ ok. enr_request a.expiration (omega arith))

pub returns : goal.returns
returns c = let w = c.write_enr_request.ensures in record { answer = c.written_code.ensures ∙ ap written_code w.answer; bytes = w.bytes }
