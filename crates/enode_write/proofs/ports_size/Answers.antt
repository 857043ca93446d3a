-- `enode_write::ports_size` meets its contract. Assumes nothing.
use mathlib.Core.Path.{ap}
use native.Mathlib.Omega.{arith}
use lib.ListN.{length}
use Rattle.enode_write.proofs.Lines.{ports_length, discport_none, discport-length}
use Rattle.enode_write.proofs.ports_size.Goals as goal

pub returns-then-udp-tcp : goal.returns-then-udp-tcp
returns-then-udp-tcp c = let a = c.args in
    let e = ports_length a.udp a.tcp in
    let n = ap length (discport_none a.udp a.tcp c.if-udp-tcp.true) in record { size = omega (arith, e, n, c.port_len-one.ensures.size, c.port_len-one.ensures.few); few = omega (arith, c.port_len-one.ensures.size, c.port_len-one.ensures.few) }

pub returns : goal.returns
returns c = let a = c.args in
    let e = ports_length a.udp a.tcp in
    let n = discport-length a.udp a.tcp c.if-udp-tcp.false in record { size = omega (arith, e, n, c.port_len-one.ensures.size, c.port_len-one.ensures.few, c.port_len.ensures.size, c.port_len.ensures.few); few = omega (arith, c.port_len-one.ensures.size, c.port_len-one.ensures.few, c.port_len.ensures.size, c.port_len.ensures.few) }
