-- `capi::coghammer_join` meets its contract. Assumes nothing.
use mathlib.Core.Path.{ap, ◌∙◌}
use Rattle.packet_join.specs.Join.{can_join, datagram}
use Rattle.capi_codes.proofs.Sizes.{short-fits, joined_size}
use Rattle.capi_codes.specs.Codes.{written_code}
use Rattle.capi.proofs.coghammer_join.Goals as goal

pub written_code-requires : goal.written_code-requires
written_code-requires c = let a = c.args in
    short-fits (can_join a.signature.now a.body.now) (datagram a.signature.now a.body.now) a.buf.now c.join.ensures.answer
    (joined_size a.signature.now a.body.now)

pub returns : goal.returns
returns c = let w = c.join.ensures in record { answer = c.written_code.ensures ∙ ap written_code w.answer; bytes = w.bytes }
