-- `enode_write::put_enode` meets its contract. Assumes nothing.
use mathlib.Core.Path.{ap}
use mathlib.Core.List.{List, [], ◌∷◌}
use native.Mathlib.Omega.{arith}
use lib.ListN.{length}
use Rattle.octets.specs.Octets.{Bytes}
use Rattle.octets.proofs.Progress.{Progress, start, room, step, finish}
use Rattle.enode_write.specs.Steps.{key_text, address_text, ports_end}
use Rattle.enode_write.proofs.Lines.{line_is}
use Rattle.enode_write.proofs.put_enode.Goals as goal

pub put_key-next-requires : goal.put_key-next-requires
put_key-next-requires c =
    let pieces : List Bytes = let n = c.args.node in
    key_text n.key ∷ address_text n.endpoint.address ∷ ports_end n.endpoint.udp n.endpoint.tcp ∷ [] in
    let begun : Progress c.args.buf.now c.args.at pieces pieces c.args.buf.now c.args.at = start c.args.buf.now c.args.at pieces (omega (arith, c.requires.1, ap length (line_is c.args.node c.requires.0))) in
    room begun

pub put_address-next-requires : goal.put_address-next-requires
put_address-next-requires c =
    let pieces : List Bytes = let n = c.args.node in
    key_text n.key ∷ address_text n.endpoint.address ∷ ports_end n.endpoint.udp n.endpoint.tcp ∷ [] in
    let begun : Progress c.args.buf.now c.args.at pieces pieces c.args.buf.now c.args.at = start c.args.buf.now c.args.at pieces (omega (arith, c.requires.1, ap length (line_is c.args.node c.requires.0))) in
    room (step begun (c.put_key-next.ensures.next, c.put_key-next.ensures.bytes))

pub put_ports-requires : goal.put_ports-requires
put_ports-requires c =
    let pieces : List Bytes = let n = c.args.node in
    key_text n.key ∷ address_text n.endpoint.address ∷ ports_end n.endpoint.udp n.endpoint.tcp ∷ [] in
    let begun : Progress c.args.buf.now c.args.at pieces pieces c.args.buf.now c.args.at = start c.args.buf.now c.args.at pieces (omega (arith, c.requires.1, ap length (line_is c.args.node c.requires.0))) in
    room (step (step begun (c.put_key-next.ensures.next, c.put_key-next.ensures.bytes)) (c.put_address-next.ensures.next, c.put_address-next.ensures.bytes))

pub returns : goal.returns
returns c =
    let pieces : List Bytes = let n = c.args.node in
    key_text n.key ∷ address_text n.endpoint.address ∷ ports_end n.endpoint.udp n.endpoint.tcp ∷ [] in
    let begun : Progress c.args.buf.now c.args.at pieces pieces c.args.buf.now c.args.at = start c.args.buf.now c.args.at pieces (omega (arith, c.requires.1, ap length (line_is c.args.node c.requires.0))) in
    let p₁ = step begun (c.put_key-next.ensures.next, c.put_key-next.ensures.bytes) in
    let p₂ = step p₁ (c.put_address-next.ensures.next, c.put_address-next.ensures.bytes) in
    let p₃ = step p₂ (c.put_ports.ensures.next, c.put_ports.ensures.bytes) in
    let whole = finish p₃ (line_is c.args.node c.requires.0) in
    record { next = whole.0; bytes = whole.1 }
