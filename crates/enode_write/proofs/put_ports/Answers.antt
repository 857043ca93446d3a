-- `enode_write::put_ports` meets its contract. Assumes nothing.
use Prim.Native.Nat.{◌+◌}
use mathlib.Core.Path.{ap}
use mathlib.Core.List.{List, [], ◌∷◌}
use native.Mathlib.Omega.{arith}
use lib.ListN.{length}
use Rattle.octets.specs.Octets.{Bytes}
use Rattle.octets.proofs.Progress.{Progress, start, room, step, finish}
use Rattle.text.specs.Decimals.{decimal}
use Rattle.enode_write.specs.Steps.{discport_text}
use Rattle.enode_write.proofs.Lines.{ports_is}
use Rattle.enode_write.proofs.put_ports.Goals as goal

pub put_marked-next-requires : goal.put_marked-next-requires
put_marked-next-requires c =
    let pieces : List Bytes = let a = c.args in (0x3a ∷ decimal a.tcp) ∷ discport_text a.udp a.tcp ∷ (0x0a ∷ []) ∷ [] in
    let begun : Progress c.args.buf.now c.args.at pieces pieces c.args.buf.now c.args.at = start c.args.buf.now c.args.at pieces (omega (arith, c.requires, ap length (ports_is c.args.udp c.args.tcp))) in
    room begun

pub put_discport-next-requires : goal.put_discport-next-requires
put_discport-next-requires c =
    let pieces : List Bytes = let a = c.args in (0x3a ∷ decimal a.tcp) ∷ discport_text a.udp a.tcp ∷ (0x0a ∷ []) ∷ [] in
    let begun : Progress c.args.buf.now c.args.at pieces pieces c.args.buf.now c.args.at = start c.args.buf.now c.args.at pieces (omega (arith, c.requires, ap length (ports_is c.args.udp c.args.tcp))) in
    room (step begun (c.put_marked-next.ensures.next, c.put_marked-next.ensures.bytes))

pub put_byte-requires : goal.put_byte-requires
put_byte-requires c =
    let pieces : List Bytes = let a = c.args in (0x3a ∷ decimal a.tcp) ∷ discport_text a.udp a.tcp ∷ (0x0a ∷ []) ∷ [] in
    let begun : Progress c.args.buf.now c.args.at pieces pieces c.args.buf.now c.args.at = start c.args.buf.now c.args.at pieces (omega (arith, c.requires, ap length (ports_is c.args.udp c.args.tcp))) in
    omega (arith, room (step (step begun (c.put_marked-next.ensures.next, c.put_marked-next.ensures.bytes)) (c.put_discport-next.ensures.next, c.put_discport-next.ensures.bytes)))

pub overflow_add-result : goal.overflow_add-result
overflow_add-result c =
    let pieces : List Bytes = let a = c.args in (0x3a ∷ decimal a.tcp) ∷ discport_text a.udp a.tcp ∷ (0x0a ∷ []) ∷ [] in
    let begun : Progress c.args.buf.now c.args.at pieces pieces c.args.buf.now c.args.at = start c.args.buf.now c.args.at pieces (omega (arith, c.requires, ap length (ports_is c.args.udp c.args.tcp))) in
    omega (arith, room (step (step begun (c.put_marked-next.ensures.next, c.put_marked-next.ensures.bytes)) (c.put_discport-next.ensures.next, c.put_discport-next.ensures.bytes)))

pub returns : goal.returns
returns c =
    let pieces : List Bytes = let a = c.args in (0x3a ∷ decimal a.tcp) ∷ discport_text a.udp a.tcp ∷ (0x0a ∷ []) ∷ [] in
    let begun : Progress c.args.buf.now c.args.at pieces pieces c.args.buf.now c.args.at = start c.args.buf.now c.args.at pieces (omega (arith, c.requires, ap length (ports_is c.args.udp c.args.tcp))) in
    let p₂ = step (step begun (c.put_marked-next.ensures.next, c.put_marked-next.ensures.bytes)) (c.put_discport-next.ensures.next, c.put_discport-next.ensures.bytes) in
    let whole = finish (step {n' = c.put_discport-next.result + 1} p₂ (omega arith, c.put_byte.ensures)) (ports_is c.args.udp c.args.tcp) in
    record { next = whole.0; bytes = whole.1 }
