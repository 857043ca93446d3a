-- `capi::coghammer_write_find_node` meets its contract. Assumes nothing.
use mathlib.Core.Path.{ap, ◌∙◌}
use native.Mathlib.Omega.{arith}
use Rattle.packet_bodies.specs.Writers.{can_find_node, find_node_body}
use Rattle.packet_laws.specs.Bodies.{find_node}
use Rattle.capi_codes.proofs.Sizes.{body-fits}
use Rattle.capi_codes.specs.Codes.{written_code}
use Rattle.capi.proofs.coghammer_write_find_node.Goals as goal

pub written_code-requires : goal.written_code-requires
written_code-requires c = let a = c.args in
    body-fits (can_find_node a.target.now) (find_node_body a.target.now a.expiration) a.buf.now c.write_find_node.ensures.answer
    (λ ok. find_node a.target.now a.expiration ok (omega arith))

pub returns : goal.returns
returns c = let w = c.write_find_node.ensures in record { answer = c.written_code.ensures ∙ ap written_code w.answer; bytes = w.bytes }
